-- What a reading call owes in each of its cases: other than eleven bytes, a voiced set, an unvoiced set, any other form.
-- Assumes nothing.
use mathlib.Core.Path.{◌≡◌, refl, sym, ap, ◌∙◌}
use mathlib.Core.Bool.{Bool, true, false, cond}
use mathlib.Core.List.{List, ◌∷◌}
use Prim.Native.Nat.{ℕ}
use lib.ListN.{length, get_or}
use borrow.Author.Tests.{eq-eqb, ne_eqb}
use Rattle.bits.specs.Bits.{cut}
use Rattle.bits.proofs.Cut.{cut_get_or}
use Rattle.sets.specs.declared.ParameterSet.{ParameterSet}
use Rattle.sets.specs.declared.ParameterSet.TheVariants.{Unvoiced, Voiced}
use Rattle.set_bytes.specs.SetBytes.{bytes_of, read_indices, read_voicing, set_in, same, is_set, read_answer}
use Rattle.std.specs.Prelude.{Ok, Err}
use Rattle.refusal.specs.declared.Refusal.TheVariants.{OutOfRange}
use Rattle.set_bytes.proofs.SetBytes.{bytes_length, bytes_fits, fits_only, answer_is}

module _ (bytes : List ℕ) where
  -- the two sets that bytes can be those of
  abbrev voiced : ParameterSet
  voiced = Voiced (read_indices bytes) (read_voicing bytes)

  abbrev unvoiced : ParameterSet
  unvoiced = Unvoiced (read_indices bytes)

  -- the first byte tells which one
  set_voiced : get_or bytes 0 0 ≡ 1 → set_in bytes ≡ voiced
  unfolding set_in
  set_voiced e = ap (λ (b : Bool). cond b voiced unvoiced) (eq-eqb (get_or bytes 0 0) 1 e)

  set_unvoiced : (get_or bytes 0 0 ≡ 1 → ⊥) → set_in bytes ≡ unvoiced
  unfolding set_in
  set_unvoiced e = ap (λ (b : Bool). cond b voiced unvoiced) (ne_eqb (get_or bytes 0 0) 1 e)

  -- bytes of another number are those of no set
  pub size_owes : (length bytes ≡ 11 → ⊥) → Err OutOfRange ≡ read_answer bytes
  size_owes h = go (is_set bytes) refl
    where
      go : (b : Bool) → is_set bytes ≡ b → Err OutOfRange ≡ read_answer bytes
      go true e = absurd (h (ap length (fits_only bytes e) ∙ bytes_length (set_in bytes)))
      go false e = sym (answer_is bytes false e)

  module _ (eleven : length bytes ≡ 11) where
    -- eleven bytes, one by one
    entries : cut (λ j. get_or bytes j 0) 0 11 ≡ bytes
    entries = ap (cut (λ j. get_or bytes j 0) 0) (sym eleven) ∙ cut_get_or 0 bytes

    -- 1 in front: a voiced set
    pub voiced_owes : get_or bytes 0 0 ≡ 1 → Ok voiced ≡ read_answer bytes
    voiced_owes e =
        let own : bytes ≡ bytes_of voiced = sym entries ∙ ap (λ (n : ℕ). n ∷ cut (λ j. get_or bytes j 0) 1 10) e in
        ap Ok (sym (set_voiced e)) ∙ sym (answer_is bytes true (bytes_fits bytes voiced own))

  -- otherwise the bytes of the unvoiced set, or of none
  pub unvoiced_owes : (get_or bytes 0 0 ≡ 1 → ⊥) → same bytes (bytes_of unvoiced) ≡ true → Ok unvoiced ≡ read_answer bytes
  unfolding is_set
  unvoiced_owes h e =
      let is = set_unvoiced h in
      ap Ok (sym is) ∙ sym (answer_is bytes true (ap (λ (s : ParameterSet). same bytes (bytes_of s)) is ∙ e))

  pub other_owes : (get_or bytes 0 0 ≡ 1 → ⊥) → same bytes (bytes_of unvoiced) ≡ false → Err OutOfRange ≡ read_answer bytes
  unfolding is_set
  other_owes h e = sym (answer_is bytes false (ap (λ (s : ParameterSet). same bytes (bytes_of s)) (set_unvoiced h) ∙ e))
