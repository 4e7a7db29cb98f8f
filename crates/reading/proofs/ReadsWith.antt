-- A frame that is read by its class is read as said, where an unvoiced one is.
-- Assumes nothing.
use mathlib.Core.Path.{◌≡◌}
use mathlib.Core.Bool.{Bool}
use Prim.Native.Nat.{ℕ}
use Rattle.std.specs.Prelude.{Option}
use Rattle.pitch.specs.Pitch.{class_of}
use Rattle.pitch.specs.declared.PitchClass.{PitchClass}
use Rattle.pitch.specs.declared.PitchClass.TheVariants as class
use Rattle.order.specs.Fields.{pitch_bits}
use Rattle.reading.specs.Reading.{by_class, read, ReadsWith}
use Rattle.reading.specs.SoftReading.{soft_by_class, soft_read}
use Rattle.reading.specs.declared.Accepted.{Accepted}

module _ (P : Option Accepted → Type 0) (g : ℕ → Bool) (r : Option Accepted) where
  -- without confidences
  pub read_is : ReadsWith P g (class_of (pitch_bits g)) r → (P r → r ≡ by_class g class.Unvoiced) → r ≡ read g
  unfolding read
  read_is h unvoiced = go (class_of (pitch_bits g)) h
    where
      go : (c : PitchClass) → ReadsWith P g c r → r ≡ by_class g c
      go class.Unvoiced h = unvoiced h
      go class.Erased h = h
      go (class.Voiced i) h = h

  -- and with them
  pub soft_read_is : (q : ℕ → ℕ) → ReadsWith P g (class_of (pitch_bits g)) r → (P r → r ≡ soft_by_class g q class.Unvoiced) → r ≡ soft_read g q
  unfolding soft_read
  soft_read_is q h unvoiced = go (class_of (pitch_bits g)) h
    where
      go : (c : PitchClass) → ReadsWith P g c r → r ≡ soft_by_class g q c
      go class.Unvoiced h = unvoiced h
      go class.Erased h = h
      go (class.Voiced i) h = h
