-- The receiver with a record that does not hold how many of its kinds are repeats (document 01, "Receiver"): mute goes by a count of them at each frame.
-- Bits are read by the rules of today (document 02, T-02 and T-05), in any order. It stands for T-06 alone: what a record taken over has to lead to.
use Rattle.std.specs.Prelude.{ℕ, Bool, List, ◌++◌, Option, None, Some, Result, Ok, Err}
use Rattle.refusal.specs.Refusals.{first_refusal}
use Rattle.refusal.specs.declared.Refusal.{Refusal}
use Rattle.order.specs.Order.{logical_bit, frame_table}
use Rattle.order.specs.Fields.{sync_bit}
use Rattle.order.specs.SoftTaking.{confidence_of, confidence_table}
use Rattle.sets.specs.Sets.{indices_in}
use Rattle.sets.specs.declared.ParameterSet.{ParameterSet}
use Rattle.reading.specs.Reading.{read}
use Rattle.reading.specs.SoftReading.{soft_read}
use Rattle.reading.specs.declared.Accepted.{Accepted}
use Rattle.records.specs.Records.{accepted_kind, repeated_kind, repeats_in, muted}
use Rattle.records.specs.OldRecords.{old_table}
use Rattle.records.specs.declared.OldRecord.{OldRecord}
use Rattle.receiver.specs.declared.FrameResult.{FrameResult}
use Rattle.receiver.specs.Next.{pushed}
use Rattle.receiver.specs.Steps.{accepted_result, repeated_result}

-- the answer and the next record
pub record OldReceived : Type 0 where
  pub answer : Result FrameResult Refusal
  pub next : OldRecord

-- the next record after an accepted frame, and after a repeat
abbrev pub old_after_accepted : OldRecord → ParameterSet → OldRecord
old_after_accepted old set = record { last = set; g2 = (indices_in set).g2; kinds = pushed old.kinds accepted_kind }

abbrev pub old_after_repeat : OldRecord → OldRecord
old_after_repeat old = record { last = old.last; g2 = old.g2; kinds = pushed old.kinds repeated_kind }

-- what either yields and leaves: the kinds are counted with this frame among them
abbrev pub old_step : OldRecord → Bool → Option Accepted → OldReceived
old_step old sync (Some x) = record {
  answer = Ok (accepted_result old.g2 (muted (repeats_in (old_after_accepted old x.set).kinds)) sync x.set x.repaired);
  next = old_after_accepted old x.set;
}
old_step old sync None = record {
  answer = Ok (repeated_result old.last old.g2 (muted (repeats_in (old_after_repeat old).kinds)) sync);
  next = old_after_repeat old;
}

-- refused: what refuses it, and the record stays
abbrev pub old_unless : Option Refusal → OldRecord → Bool → Option Accepted → OldReceived
old_unless None old sync x = old_step old sync x
old_unless (Some f) old sync x = record { answer = Err f; next = old }

-- a frame without confidences
unfoldable pub old_receive : List ℕ → OldRecord → List ℕ → OldReceived
old_receive ord old bytes = old_unless (first_refusal (frame_table ord bytes ++ old_table old)) old (sync_bit (logical_bit ord bytes)) (read (logical_bit ord bytes))

-- and with a confidence for each place
unfoldable pub old_soft_receive : List ℕ → OldRecord → List ℕ → List ℕ → OldReceived
old_soft_receive ord old bytes confidences =
    old_unless (first_refusal ((frame_table ord bytes ++ confidence_table confidences) ++ old_table old)) old (sync_bit (logical_bit ord bytes))
    (soft_read (logical_bit ord bytes) (confidence_of ord confidences))
