-- Whatever is read with confidences is in range, so a receiver's record can hold it.
-- Assumes nothing.
use mathlib.Core.Path.{refl}
use mathlib.Core.Bool.{Bool}
use Prim.Native.Nat.{ℕ}
use lib.Dec.{T}
use Rattle.pitch.specs.Pitch.{class_of}
use Rattle.pitch.specs.declared.PitchClass.{PitchClass}
use Rattle.pitch.specs.declared.PitchClass.TheVariants as class
use Rattle.pitch.proofs.Codes.{index_fits, class_index_fits}
use Rattle.order.specs.Fields.{word_a, word_b, word_c, word_d, pitch_bits}
use Rattle.soft.specs.Choice.{choose}
use Rattle.soft.proofs.Bounds.{choose_bounded}
use Rattle.reading.specs.Reading.{reading_fits}
use Rattle.reading.specs.SoftReading.{soft_by_class, soft_read}
use Rattle.reading.proofs.Ranges.{words_fit, class_fits}

module _ (g : ℕ → Bool) (q : ℕ → ℕ) where
  -- a frame of each class
  soft_class_fits : (c : PitchClass) → T (index_fits c) → T (reading_fits (soft_by_class g q c))
  soft_class_fits class.Unvoiced t =
      words_fit g (choose 8 (word_a q) (word_a g)) (choose 6 (word_b q) (word_b g)) (choose 7 (word_c q) (word_c g)) (choose 7 (word_d q) (word_d g)) (
        choose_bounded 8 (word_a q) (word_a g) refl,
        choose_bounded 6 (word_b q) (word_b g) refl,
        choose_bounded 7 (word_c q) (word_c g) refl,
        choose_bounded 7 (word_d q) (word_d g) refl,
      )
  soft_class_fits class.Erased t = tt
  soft_class_fits (class.Voiced i) t = class_fits g (class.Voiced i) t

  -- what is read is in range
  pub soft_read_fits : T (reading_fits (soft_read g q))
  unfolding soft_read
  soft_read_fits = soft_class_fits (class_of (pitch_bits g)) (class_index_fits (pitch_bits g) refl)
