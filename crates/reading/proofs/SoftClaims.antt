-- What is claimed of reading with confidences, from what is claimed of each word's choice.
-- Assumes nothing.
use mathlib.Core.Path.{◌≡◌, refl, sym, ap, ◌∙◌}
use mathlib.Core.Bool.{Bool, true≢false}
use mathlib.Core.List.{List}
use Prim.Native.Nat.{ℕ}
use native.Mathlib.Omega.{arith}
use Rattle.std.specs.Prelude.{Option, None, is_none}
use Rattle.bits.specs.Bits.{ones}
use Rattle.pitch.specs.Pitch.{class_of}
use Rattle.pitch.specs.declared.PitchClass.TheVariants as class
use Rattle.hamming.specs.Word.{read_as}
use Rattle.hamming.specs.declared.Word.{Word}
use Rattle.hamming.proofs.Erasures.{decode_erased}
use Rattle.order.specs.Fields.{word_a, word_b, word_c, word_d, pitch_bits}
use Rattle.sets.specs.declared.ParameterSet.TheVariants.{Unvoiced}
use Rattle.soft.specs.Choice.{differing, chosen, choose}
use Rattle.soft.specs.Claims.{Tied}
use Rattle.soft.proofs.Claims.{claims}
use Rattle.reading.specs.Reading.{accepted_as, from_words}
use Rattle.reading.specs.SoftReading.{soft_by_class, soft_read}
use Rattle.reading.specs.SoftClaims.{SpareShown, AllEqual, taken_b, taken_c, taken_d, taken_indices, places_differing, SoftClaims}
use Rattle.reading.proofs.Erasures.{spare_read}
use Rattle.reading.proofs.SoftExtent.{soft_alone}
use Rattle.reading.proofs.SoftEqual.{equal_a, equal_read}

-- a word other than A is always read
read_word : (n : ℕ) (q : List ℕ) (w : List Bool) → (n ≡ 8 → ⊥) → choose n q w ≡ read_as (chosen n q w) (ones (differing n w (chosen n q w)))
read_word n q w h = (claims.outcomes n q w).single (λ e. absurd (h e))

module _ (g : ℕ → Bool) (q : ℕ → ℕ) where
  read_b : choose 6 (word_b q) (word_b g) ≡ read_as (taken_b g q) (ones (differing 6 (word_b g) (taken_b g q)))
  read_b = read_word 6 (word_b q) (word_b g) (λ e. omega arith)

  read_c : choose 7 (word_c q) (word_c g) ≡ read_as (taken_c g q) (ones (differing 7 (word_c g) (taken_c g q)))
  read_c = read_word 7 (word_c q) (word_c g) (λ e. omega arith)

  read_d : choose 7 (word_d q) (word_d g) ≡ read_as (taken_d g q) (ones (differing 7 (word_d g) (taken_d g q)))
  read_d = read_word 7 (word_d q) (word_d g) (λ e. omega arith)

  module _ (u : class_of (pitch_bits g) ≡ class.Unvoiced) where
    unvoiced_is : soft_read g q ≡ soft_by_class g q class.Unvoiced
    unfolding soft_read
    unvoiced_is = ap (soft_by_class g q) u

    -- two or more cheapest in word A
    tied_erased : Tied 8 (word_a q) (word_a g) → soft_read g q ≡ None
    tied_erased t =
        unvoiced_is
        ∙ ap (λ (a : Option Word). from_words g a (choose 6 (word_b q) (word_b g)) (choose 7 (word_c q) (word_c g)) (choose 7 (word_d q) (word_d g)))
        ((claims.outcomes 8 (word_a q) (word_a g)).tied refl t)

    -- one
    single_taken : (Tied 8 (word_a q) (word_a g) → ⊥) → soft_read g q ≡ accepted_as (Unvoiced (taken_indices g q)) (places_differing g q)
    single_taken s =
        let a = (claims.outcomes 8 (word_a q) (word_a g)).single (λ e. s) in
        unvoiced_is ∙ (λ t. from_words g (a t) (read_b t) (read_c t) (read_d t))

  -- where the spare is shown, word A is read without confidences, so there is no tie in it
  spare_taken : (k : ℕ) → AllEqual k q → SpareShown g → soft_read g q ≡ accepted_as (Unvoiced (taken_indices g q)) (places_differing g q)
  spare_taken k all s =
      single_taken s.unvoiced (λ t.
      true≢false (sym (ap is_none ((claims.outcomes 8 (word_a q) (word_a g)).tied refl t)) ∙ ap is_none (equal_a g q k all) ∙ decode_erased 8 (word_a g) ∙ s.kept))

-- all of it
pub soft_claims : (g : ℕ → Bool) (q : ℕ → ℕ) → SoftClaims g q
soft_claims g q = record {
  alone = soft_alone g q;
  tied = tied_erased g q;
  taken = single_taken g q;
  equal = equal_read g q;
  spare_erased = λ s. spare_read g s.unvoiced s.spare;
  spare_read = spare_taken g q;
}
