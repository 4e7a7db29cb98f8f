-- What is read with confidences depends on logical bits 0 to 52 and on the confidences of the words' bits alone; where the pitch code is not
-- unvoiced on the bits alone, and then as without confidences.
-- Assumes nothing.
use mathlib.Core.Path.{◌≡◌, refl, ap, ◌∙◌}
use mathlib.Core.Bool.{Bool}
use mathlib.Core.List.{List}
use Prim.Native.Nat.{ℕ, ◌+◌, ◌≤◌, ◌<◌}
use native.Mathlib.Omega.{arith}
use lib.Dec.{lit≤}
use Rattle.bits.specs.Bits.{cut}
use Rattle.bits.proofs.Cut.{cut_ext}
use Rattle.pitch.specs.Pitch.{class_of}
use Rattle.pitch.specs.declared.PitchClass.{PitchClass}
use Rattle.pitch.specs.declared.PitchClass.TheVariants as class
use Rattle.order.specs.Fields.{pitch_bits}
use Rattle.soft.specs.Choice.{choose}
use Rattle.reading.specs.Reading.{from_words, by_class, read}
use Rattle.reading.specs.SoftReading.{soft_by_class, soft_read}
use Rattle.reading.proofs.Extent.{cuts, words_ext, class_ext}

module _ (g h : ℕ → Bool) (e : (j : ℕ) → j < 53 → g j ≡ h j) (q r : ℕ → ℕ) (f : (j : ℕ) → j < 28 → q j ≡ r j) where
  -- a part of the confidences
  parts : (i n : ℕ) → i + n ≤ 28 → cut q i n ≡ cut r i n
  parts i n l = cut_ext q r i n (λ j a b. f j (omega arith))

  -- a word's outcome
  word_ext : (i n : ℕ) → i + n ≤ 28 → choose n (cut q i n) (cut g i n) ≡ choose n (cut r i n) (cut h i n)
  word_ext i n l = λ t. choose n (parts i n l t) (cuts g h e i n (omega arith) t)

  soft_class_ext : (c : PitchClass) → soft_by_class g q c ≡ soft_by_class h r c
  soft_class_ext class.Unvoiced =
      words_ext g h e (choose 8 (cut q 0 8) (cut g 0 8)) (choose 6 (cut q 8 6) (cut g 8 6)) (choose 7 (cut q 14 7) (cut g 14 7)) (choose 7 (cut q 21 7) (cut g 21 7))
      ∙ (λ t. from_words h (word_ext 0 8 (lit≤ tt) t) (word_ext 8 6 (lit≤ tt) t) (word_ext 14 7 (lit≤ tt) t) (word_ext 21 7 (lit≤ tt) t))
  soft_class_ext class.Erased = refl
  soft_class_ext (class.Voiced i) = class_ext g h e (class.Voiced i)

  -- bits and confidences that agree so far are read alike
  pub soft_ext : soft_read g q ≡ soft_read h r
  unfolding soft_read
  soft_ext = soft_class_ext (class_of (pitch_bits g)) ∙ ap (λ (p : List Bool). soft_by_class h r (class_of p)) (cuts g h e 28 7 (lit≤ tt))

-- where the pitch code is voiced or erased, confidences play no part
pub soft_alone : (g : ℕ → Bool) (q : ℕ → ℕ) → (class_of (pitch_bits g) ≡ class.Unvoiced → ⊥) → soft_read g q ≡ read g
unfolding soft_read read
soft_alone g q h = go (class_of (pitch_bits g)) h
  where
    go : (c : PitchClass) → (c ≡ class.Unvoiced → ⊥) → soft_by_class g q c ≡ by_class g c
    go class.Unvoiced h = absurd (h refl)
    go class.Erased h = refl
    go (class.Voiced i) h = refl
