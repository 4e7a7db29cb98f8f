-- Which words are erased: those whose syndrome erases and no others. A word with at most one flip is none of them, whatever its length.
-- Assumes nothing.
use mathlib.Core.Path.{◌≡◌, refl, sym, ap, ◌∙◌}
use mathlib.Core.Bool.{Bool, true, false, cond, and-false}
use mathlib.Core.List.{List, [], ◌∷◌}
use Prim.Native.Nat.{ℕ, ◌≤◌}
use native.Mathlib.Omega.{arith}
use lib.Dec.{eqb}
use Rattle.std.specs.Prelude.{is_none}
use lib.ListN.{length}
use borrow.Author.Tests.{eq-eqb, eqb-true}
use Rattle.bits.specs.Bits.{◌⊕◌, ones}
use Rattle.hamming.specs.Word.{data_bits, encode, syndrome, erases, bit_from, stand, flip, erase, fix_of, mend, decode}
use Rattle.hamming.proofs.Repairs.{decode_back}

-- zero erases no word
zero_keeps : (n : ℕ) (z : List Bool) → ones z ≡ 0 → erases n z ≡ false
zero_keeps n [] e = simp (and-false (eqb n 8), and-false (eqb n 6))
zero_keeps n (true ∷ z) e = absurd (omega arith)
zero_keeps n (false ∷ z) e = simp (eq-eqb (ones z) 0 e, and-false (eqb n 8), and-false (eqb n 6))

-- the outcome by the two tests of a syndrome, of which not both hold
by_tests : (n : ℕ) (w : List Bool) (k : ℕ) (a b : Bool) → (a ≡ true → b ≡ false) → is_none (mend n w (cond a stand (cond b erase (flip k)))) ≡ b
by_tests n w k true b h = sym (h refl)
by_tests n w k false true h = refl
by_tests n w k false false h = refl

-- a received word is erased exactly where its syndrome erases
pub decode_erased : (n : ℕ) (w : List Bool) → is_none (decode n w) ≡ erases n (syndrome n w)
unfolding decode fix_of
decode_erased n w =
    let z = syndrome n w in
    by_tests n w (bit_from n z n 0) (eqb (ones z) 0) (erases n z) (λ h. zero_keeps n z (eqb-true (ones z) 0 h))

module _ (n : ℕ) (l : 6 ≤ n) (m : n ≤ 8) (d e : List Bool) (hd : length d ≡ data_bits n) (he : length e ≡ n) (h : ones e ≤ 1) where
  -- a word with at most one flip is never erased
  pub one_flip_read : is_none (decode n (encode n d ⊕ e)) ≡ false
  one_flip_read = ap is_none (decode_back n l m d e hd he h)

  -- so it shows no syndrome that erases, word B not the spare's
  pub one_flip_syndrome : erases n (syndrome n (encode n d ⊕ e)) ≡ false
  one_flip_syndrome = sym (decode_erased n (encode n d ⊕ e)) ∙ one_flip_read
