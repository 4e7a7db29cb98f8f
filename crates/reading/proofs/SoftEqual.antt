-- With all confidences equal and above 0 a frame is read as without them, except where word B shows the spare's syndrome and word A does not erase.
-- Assumes nothing.
use mathlib.Core.Path.{◌≡◌, refl, sym, ap, ap₂, ◌∙◌}
use mathlib.Core.Bool.{Bool, true, false, true≢false}
use mathlib.Core.List.{List, ◌∷◌}
use Prim.Native.Nat.{ℕ, zero, suc, ◌+◌, ◌≤◌, ◌<◌}
use native.Mathlib.Omega.{arith}
use lib.Dec.{lit≤}
use lib.ListN.{replicate}
use Rattle.bits.specs.Bits.{cut, same}
use Rattle.bits.proofs.Tests.{T_true}
use Rattle.bits.proofs.Cut.{cut_length}
use Rattle.bits.proofs.Patterns.{same_eq}
use Rattle.pitch.specs.Pitch.{class_of}
use Rattle.pitch.specs.declared.PitchClass.{PitchClass}
use Rattle.pitch.specs.declared.PitchClass.TheVariants as class
use Rattle.hamming.specs.Word.{syndrome, spare_column, erases, decode}
use Rattle.std.specs.Prelude.{Option}
use Rattle.hamming.specs.declared.Word.{Word}
use Rattle.order.specs.Fields.{word_a, word_b, word_c, word_d, pitch_bits}
use Rattle.soft.specs.Choice.{choose}
use Rattle.soft.proofs.Claims.{claims}
use Rattle.reading.specs.Reading.{from_words, by_class, read}
use Rattle.reading.specs.SoftReading.{soft_by_class, soft_read}
use Rattle.reading.specs.SoftClaims.{SpareShown, AllEqual}
use Rattle.reading.proofs.Erasures.{a_first}

-- equal numbers in a row
cut_equal : (q : ℕ → ℕ) (k i n : ℕ) → ((j : ℕ) → i ≤ j → j < i + n → q j ≡ k) → cut q i n ≡ replicate n k
cut_equal q k i zero e = refl
cut_equal q k i (suc n) e = ap₂ (λ (x : ℕ) (xs : List ℕ). x ∷ xs) (e i (omega arith) (omega arith)) (cut_equal q k (suc i) n (λ j a b. e j (omega arith) (omega arith)))

module _ (g : ℕ → Bool) (q : ℕ → ℕ) (k : ℕ) (all : AllEqual k q) where
  -- with equal confidences a word is read as without them, but for the spare's syndrome
  word_equal : (i n : ℕ) → 6 ≤ n → n ≤ 8 → i + n ≤ 28 → (n ≡ 6 → syndrome 6 (cut g i n) ≡ spare_column → ⊥) → choose n (cut q i n) (cut g i n) ≡ decode n (cut g i n)
  word_equal i n l m b h =
      ap (λ (r : List ℕ). choose n r (cut g i n)) (cut_equal q k i n (λ j a c. all.equal j (omega arith)))
      ∙ claims.equal n l m k all.above (cut g i n) (cut_length g i n) h

  pub equal_a : choose 8 (word_a q) (word_a g) ≡ decode 8 (word_a g)
  equal_a = word_equal 0 8 (lit≤ tt) (lit≤ tt) (lit≤ tt) (λ e. absurd (omega arith))

  equal_c : choose 7 (word_c q) (word_c g) ≡ decode 7 (word_c g)
  equal_c = word_equal 14 7 (lit≤ tt) (lit≤ tt) (lit≤ tt) (λ e. absurd (omega arith))

  equal_d : choose 7 (word_d q) (word_d g) ≡ decode 7 (word_d g)
  equal_d = word_equal 21 7 (lit≤ tt) (lit≤ tt) (lit≤ tt) (λ e. absurd (omega arith))

  -- where word A erases, word B plays no part
  a_erases : erases 8 (syndrome 8 (word_a g)) ≡ true → soft_by_class g q class.Unvoiced ≡ by_class g class.Unvoiced
  a_erases e =
      ap (λ (a : Option Word). from_words g a (choose 6 (word_b q) (word_b g)) (choose 7 (word_c q) (word_c g)) (choose 7 (word_d q) (word_d g))) equal_a
      ∙ a_first g e _ _ _ ∙ sym (a_first g e (decode 6 (word_b g)) (decode 7 (word_c g)) (decode 7 (word_d g)))

  -- an unvoiced frame, by whether word B shows the spare's syndrome and whether word A erases
  equal_unvoiced : (s a : Bool) → same (syndrome 6 (word_b g)) spare_column ≡ s → erases 8 (syndrome 8 (word_a g)) ≡ a
      → (syndrome 6 (word_b g) ≡ spare_column → erases 8 (syndrome 8 (word_a g)) ≡ false → ⊥) → soft_by_class g q class.Unvoiced ≡ by_class g class.Unvoiced
  equal_unvoiced true true es ea not-shown = a_erases ea
  equal_unvoiced true false es ea not-shown = absurd (not-shown (same_eq (syndrome 6 (word_b g)) spare_column (T_true _ es)) ea)
  equal_unvoiced false a es ea not-shown =
      let b = word_equal 8 6 (lit≤ tt) (lit≤ tt) (lit≤ tt) (λ n e. true≢false (sym (ap (λ (z : List Bool). same z spare_column) e) ∙ es)) in
      λ t. from_words g (equal_a t) (b t) (equal_c t) (equal_d t)

  -- a frame of any class
  pub equal_read : (SpareShown g → ⊥) → soft_read g q ≡ read g
  unfolding soft_read read
  equal_read not-shown = go (class_of (pitch_bits g)) refl
    where
      go : (c : PitchClass) → class_of (pitch_bits g) ≡ c → soft_by_class g q c ≡ by_class g c
      go class.Unvoiced u =
          equal_unvoiced (same (syndrome 6 (word_b g)) spare_column) (erases 8 (syndrome 8 (word_a g))) refl refl
          (λ e a. not-shown (record { unvoiced = u; kept = a; spare = e }))
      go class.Erased u = refl
      go (class.Voiced i) u = refl
