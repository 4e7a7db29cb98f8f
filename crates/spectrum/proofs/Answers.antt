-- What the parts of the program owe, by what the calls for values and for texts answer. Assumes nothing.
use mathlib.Core.Path.{◌≡◌, refl}
use mathlib.Core.Bool.{Bool, true, false, cond}
use mathlib.Core.List.{List, [], ◌∷◌, ◌++◌}
use Prim.Native.Nat.{ℕ}
use native.Mathlib.Omega.{arith}
use lib.IntN.{ℤ}
use lib.ListN.{length}
use Rattle.std.specs.Prelude.{Option, None, Some, Result, Ok, Err}
use Rattle.refusal.specs.Refusals.{Table, first_refusal, unless}
use Rattle.refusal.specs.declared.Refusal.{Refusal}
use Rattle.refusal.proofs.Refusals.{first_append}
use Rattle.sets.specs.declared.ParameterSet.{ParameterSet}
use Rattle.codebook_values.specs.Values.{lsf_table, lsf_answer, lsf_writes, magnitudes_table, magnitudes_answer, magnitudes_writes}
use Rattle.codebook_text.specs.Text.{text_table, text_refusal, text_answer, text_writes, numbers}
use Rattle.codebook_text.proofs.Answers.{drop_none}
use Rattle.spectrum.specs.declared.values.Spectrum.{Spectrum}
use Rattle.spectrum.specs.Values.{zeros, of_codebooks, of_texts}

-- the refusal behind an answer
err_only : {A : Type 0} (n : Option Refusal) (x : A) (f : Refusal) → Err f ≡ unless n x → n ≡ Some f
err_only None x f e = cc
err_only (Some g) x f e = cc

ok_only : {A : Type 0} (n : Option Refusal) (x y : A) → Ok y ≡ unless n x → n ≡ None
ok_only None x y e = refl
ok_only (Some g) x y e = cc

-- where a table refuses nothing, those after it decide
passed : (rows others : Table) → first_refusal rows ≡ None → first_refusal (rows ++ others) ≡ first_refusal others
passed [] others e = refl
passed (row ∷ rows) others e = go row.0 (passed rows others) e
  where
    go : (b : Bool) → (first_refusal rows ≡ None → first_refusal (rows ++ others) ≡ first_refusal others) → cond b (Some row.1) (first_refusal rows) ≡ None
        → cond b (Some row.1) (first_refusal (rows ++ others)) ≡ first_refusal others
    go true more e = cc
    go false more e = more e

module _ (set : ParameterSet) (lsf magnitudes : List ℤ) where
  -- a refused row of LSF, or one of magnitudes where the former are not refused
  pub lsf_refused : (f : Refusal) → Err f ≡ lsf_answer set lsf 10 → Err f ≡ of_codebooks set lsf magnitudes
  unfolding lsf_answer
  lsf_refused f e = rw (first_append (lsf_table set lsf 10) (magnitudes_table set magnitudes 10) f (err_only _ tt f e)) refl

  pub magnitudes_refused : (f : Refusal) → Ok tt ≡ lsf_answer set lsf 10 → Err f ≡ magnitudes_answer set magnitudes 10 → Err f ≡ of_codebooks set lsf magnitudes
  unfolding lsf_answer magnitudes_answer
  magnitudes_refused f o e = rw (passed (lsf_table set lsf 10) (magnitudes_table set magnitudes 10) (ok_only _ tt tt o), err_only _ tt f e) refl

  -- values
  pub values_found : Ok tt ≡ lsf_answer set lsf 10 → Ok tt ≡ magnitudes_answer set magnitudes 10 → (xs ys : List ℤ)
      → xs ≡ lsf_writes set lsf zeros → ys ≡ magnitudes_writes set magnitudes zeros
      → ◌≡◌ {A = Result Spectrum Refusal} (Ok (record { lsf = xs; magnitudes = ys })) (of_codebooks set lsf magnitudes)
  unfolding lsf_answer magnitudes_answer
  values_found o p xs ys ex ey =
      rw (passed (lsf_table set lsf 10) (magnitudes_table set magnitudes 10) (ok_only _ tt tt o), ok_only _ tt tt p, ex, ey) refl

-- a text that is not refused leaves its numbers
text_writes_is : (size : ℕ) (text : List ℕ) (held : List ℤ) → length held ≡ size → text_refusal size text size ≡ None
    → text_writes size text held ≡ numbers size text
unfolding text_writes
text_writes_is size text held h e = rw (h, e) (drop_none size (numbers size text) held (omega arith))

module _ (set : ParameterSet) (lsf magnitudes : List ℕ) where
  -- a refused text of LSF, or one of magnitudes where the former is not refused
  pub lsf_text_refused : (f : Refusal) → Err f ≡ text_answer 3200 lsf 3200 → Err f ≡ of_texts set lsf magnitudes
  unfolding text_answer text_refusal
  lsf_text_refused f e = rw (first_append (text_table 3200 lsf 3200) (text_table 2560 magnitudes 2560) f (err_only _ tt f e)) refl

  pub magnitudes_text_refused : (f : Refusal) → Ok tt ≡ text_answer 3200 lsf 3200 → Err f ≡ text_answer 2560 magnitudes 2560 → Err f ≡ of_texts set lsf magnitudes
  unfolding text_answer text_refusal
  magnitudes_text_refused f o e = rw (passed (text_table 3200 lsf 3200) (text_table 2560 magnitudes 2560) (ok_only _ tt tt o), err_only _ tt f e) refl

  -- two texts that are not refused fill their buffers
  pub texts_read : Ok tt ≡ text_answer 3200 lsf 3200 → Ok tt ≡ text_answer 2560 magnitudes 2560 → (xs ys : List ℤ) → length xs ≡ 3200 → length ys ≡ 2560
      → of_codebooks set (text_writes 3200 lsf xs) (text_writes 2560 magnitudes ys) ≡ of_texts set lsf magnitudes
  unfolding text_answer text_refusal
  texts_read o p xs ys hx hy =
      let u = ok_only (first_refusal (text_table 3200 lsf 3200)) tt tt o in
      let v = ok_only (first_refusal (text_table 2560 magnitudes 2560)) tt tt p in
      rw (passed (text_table 3200 lsf 3200) (text_table 2560 magnitudes 2560) u, v)
      (λ i. of_codebooks set (text_writes_is 3200 lsf xs hx u i) (text_writes_is 2560 magnitudes ys hy v i))
