-- A voiced frame with at most one flip in its pitch code is read voiced or erased.
-- Assumes nothing.
use mathlib.Core.Bool.{Bool, true, false}
use Prim.Native.Nat.{ℕ, ◌≤◌, ◌<◌}
use mathlib.Core.Path.{refl}
use lib.Dec.{T}
use Rattle.std.specs.Prelude.{Option, None, Some}
use Rattle.bits.specs.Bits.{ones}
use Rattle.pitch.specs.Pitch.{class_of}
use Rattle.pitch.specs.declared.PitchClass.{PitchClass}
use Rattle.pitch.specs.declared.PitchClass.TheVariants as class
use Rattle.pitch.proofs.Damage.{not_unvoiced, voiced_keeps}
use Rattle.frame.specs.Layout.{words, others, voiced_words, logical, logical_of}
use Rattle.order.specs.Fields.{pitch_bits}
use Rattle.reading.specs.Reading.{by_class, read}
use Rattle.sets.specs.declared.Indices.{Indices}
use Rattle.sets.specs.declared.Voicing.{Voicing}
use Rattle.sets.specs.declared.ParameterSet.TheVariants.{Unvoiced, Voiced}
use Rattle.sets.specs.declared.ParameterSet.{ParameterSet}
use Rattle.reading.specs.declared.Accepted.{Accepted}
use Rattle.damage.proofs.Repair.{damaged}

-- read voiced, or erased
abbrev pub set_is_voiced : ParameterSet → Bool
set_is_voiced (Unvoiced x) = false
set_is_voiced (Voiced x v) = true

abbrev pub voiced_or_erased : Option Accepted → Bool
voiced_or_erased (Some r) = set_is_voiced r.set
voiced_or_erased None = true

by_class_lem : (g : ℕ → Bool) (c : PitchClass) → T (not_unvoiced c) → T (voiced_or_erased (by_class g c))
by_class_lem g class.Unvoiced t = absurd t
by_class_lem g class.Erased t = tt
by_class_lem g (class.Voiced i) t = tt

-- a voiced frame with at most one flip in its pitch code is read voiced or erased
pub voiced_read : (x : Indices) (v : Voicing) (sync : Bool) (fl : ℕ → Bool) → v.pitch < 99 → ones (pitch_bits fl) ≤ 1
    → T (voiced_or_erased (read (damaged (logical_of (Voiced x v) sync) fl)))
unfolding words others voiced_words logical read
voiced_read x v sync fl h f =
    let g : ℕ → Bool = damaged (logical_of (Voiced x v) sync) fl in
    by_class_lem g (class_of (pitch_bits g)) (voiced_keeps v.pitch h (pitch_bits fl) refl f)
