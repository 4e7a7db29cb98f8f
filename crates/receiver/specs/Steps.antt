-- Document 01, "Receiver": what a frame yields and leaves, by what its bits are read as.
use Rattle.std.specs.Prelude.{ℕ, Bool, Option, None, Some, Ok, Err}
use Rattle.refusal.specs.declared.Refusal.{Refusal}
use Rattle.gain.specs.Levels.{level, first_level}
use Rattle.sets.specs.Sets.{indices_in}
use Rattle.sets.specs.declared.ParameterSet.{ParameterSet}
use Rattle.sets.specs.declared.ParameterSet.TheVariants.{Unvoiced, Voiced}
use Rattle.reading.specs.declared.Accepted.{Accepted}
use Rattle.receiver.specs.declared.Kind.{Kind}
use Rattle.receiver.specs.declared.Kind.TheVariants as kind
use Rattle.records.specs.declared.Record.{Record}
use Rattle.receiver.specs.declared.FrameResult.{FrameResult}
use Rattle.receiver.specs.declared.Received.{Received}
use Rattle.records.specs.Records.{muted}
use Rattle.receiver.specs.Next.{after_accepted, after_repeat}

-- the kind of an accepted frame
abbrev pub kind_of : ParameterSet → Kind
kind_of (Unvoiced x) = kind.Unvoiced
kind_of (Voiced x v) = kind.Voiced

-- the result of an accepted frame: its set; the first level goes by q, the G2 accepted before
abbrev pub accepted_result : ℕ → Bool → Bool → ParameterSet → ℕ → FrameResult
accepted_result q mute sync set repaired = record {
  kind = kind_of set;
  set = set;
  first = first_level (indices_in set).g2 (indices_in set).g1 q;
  second = level (indices_in set).g2;
  mute = mute;
  sync = sync;
  repaired = repaired;
}

-- of a repeat: the last set, and both levels are that of the last G2
abbrev pub repeated_result : ParameterSet → ℕ → Bool → Bool → FrameResult
repeated_result last g2 mute sync = record {
  kind = kind.Repeat;
  set = last;
  first = level g2;
  second = level g2;
  mute = mute;
  sync = sync;
  repaired = 0;
}

-- what either yields and leaves: mute goes by the number of repeats with this frame among the kinds (document 02, T-06)
unfoldable pub accepted : Record → Bool → ParameterSet → ℕ → Received
accepted r sync set repaired = record {
  answer = Ok (accepted_result r.g2 (muted (after_accepted r set).repeats) sync set repaired);
  next = after_accepted r set;
}

unfoldable pub repeated : Record → Bool → Received
repeated r sync = record {
  answer = Ok (repeated_result r.last r.g2 (muted (after_repeat r).repeats) sync);
  next = after_repeat r;
}

-- a frame that is not erased is accepted, an erased one is a repeat
abbrev pub step : Record → Bool → Option Accepted → Received
step r sync (Some x) = accepted r sync x.set x.repaired
step r sync None = repeated r sync

-- refused: what refuses it, and the record stays
abbrev pub step_unless : Option Refusal → Record → Bool → Option Accepted → Received
step_unless None r sync x = step r sync x
step_unless (Some f) r sync x = record { answer = Err f; next = r }
