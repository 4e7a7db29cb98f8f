-- Document 02, T-05: what a frame's logical bits are read as with confidences, one from 0 to 255 for each bit (`order:SoftTaking` says which place's it is).
use Rattle.std.specs.Prelude.{ℕ, Bool, Option}
use Rattle.pitch.specs.Pitch.{class_of}
use Rattle.pitch.specs.declared.PitchClass.{PitchClass}
use Rattle.pitch.specs.declared.PitchClass.TheVariants as class
use Rattle.order.specs.Fields.{word_a, word_b, word_c, word_d, pitch_bits}
use Rattle.soft.specs.Choice.{choose}
use Rattle.reading.specs.Reading.{from_words, by_class}
use Rattle.reading.specs.declared.Accepted.{Accepted}

-- by the class of the pitch code, which is the bits' own: an unvoiced frame's words are chosen by the confidences of their bits; any other frame is
-- read as without confidences
abbrev pub soft_by_class : (ℕ → Bool) → (ℕ → ℕ) → PitchClass → Option Accepted
soft_by_class g q class.Unvoiced =
    from_words g (choose 8 (word_a q) (word_a g)) (choose 6 (word_b q) (word_b g)) (choose 7 (word_c q) (word_c g)) (choose 7 (word_d q) (word_d g))
soft_by_class g q class.Erased = by_class g class.Erased
soft_by_class g q (class.Voiced i) = by_class g (class.Voiced i)

-- what 54 logical bits g with confidences q are read as
unfoldable pub soft_read : (ℕ → Bool) → (ℕ → ℕ) → Option Accepted
soft_read g q = soft_by_class g q (class_of (pitch_bits g))
