-- A step always gives a result, and leaves a valid record where it was given one and what it reads is in range.
-- Assumes nothing.
use mathlib.Core.Path.{◌≡◌, refl}
use mathlib.Core.Bool.{Bool, false}
use Prim.Native.Nat.{ℕ}
use Rattle.std.specs.Prelude.{Option, None, Some, Result, Ok, Err}
use Rattle.refusal.specs.declared.Refusal.{Refusal}
use lib.Dec.{T}
use Rattle.sets.specs.Sets.{indices_in, in_range}
use Rattle.sets.specs.declared.ParameterSet.{ParameterSet}
use Rattle.sets.proofs.Ranges.{set_ranges}
use Rattle.reading.specs.declared.Accepted.{Accepted}
use Rattle.reading.specs.Reading.{reading_fits}
use Rattle.records.specs.Records.{accepted_kind, repeated_kind, fresh, valid}
use Rattle.records.proofs.Validity.{in_ranges_lem, counted_valid, valid_ranges}
use Rattle.records.specs.declared.Record.{Record}
use Rattle.receiver.specs.Next.{pushed}
use Rattle.receiver.specs.Steps.{accepted, repeated, step}
use Rattle.receiver.specs.declared.FrameResult.{FrameResult}
use Rattle.receiver.specs.declared.Kind.TheVariants as kind

-- the result in an answer; a refusal has none, and stands for one that is never used
abbrev pub result_in : Result FrameResult Refusal → FrameResult
result_in (Ok x) = x
result_in (Err f) = record { kind = kind.Repeat; set = fresh.last; first = 0; second = 0; mute = false; sync = false; repaired = 0 }

-- a step answers with a result
pub step_answers : (r : Record) (sync : Bool) (x : Option Accepted) → (step r sync x).answer ≡ Ok (result_in (step r sync x).answer)
unfolding accepted repeated
step_answers r sync (Some x) = refl
step_answers r sync None = refl

-- accepting a set in range leaves a valid record, whatever was there
pub accepted_valid : (r : Record) (sync : Bool) (set : ParameterSet) (k : ℕ) → T (in_range set) → T (valid (accepted r sync set k).next)
unfolding accepted
accepted_valid r sync set k t = counted_valid set (indices_in set).g2 (pushed r.kinds accepted_kind) (in_ranges_lem set (indices_in set).g2 t (set_ranges set t).g2)

-- a step leaves a valid record valid: a repeat leaves its last set and G2, and either holds the number of its repeats
pub step_valid : (r : Record) (sync : Bool) (x : Option Accepted) → T (valid r) → T (reading_fits x) → T (valid (step r sync x).next)
unfolding repeated
step_valid r sync (Some x) v t = accepted_valid r sync x.set x.repaired t
step_valid r sync None v t = counted_valid r.last r.g2 (pushed r.kinds repeated_kind) (valid_ranges r v)
