-- Document 02, T-06: what is claimed of a record that was taken over, and of one call with it, with or without confidences, in any order of the bits.
-- Nothing is asked of the old record or of the frame: what the old receiver refuses is refused alike. Lists of calls: `calls:TakenOver`.
use Rattle.std.specs.Prelude.{ℕ, ◌≡◌, List}
use Rattle.refusal.specs.Refusals.{first_refusal}
use Rattle.records.specs.Records.{valid}
use Rattle.records.specs.OldRecords.{valid_old, old_refusal, with_count}
use Rattle.records.specs.declared.OldRecord.{OldRecord}
use Rattle.receiver.specs.declared.Received.{Received}
use Rattle.receiver.specs.Receiving.{record_table, receive}
use Rattle.receiver.specs.SoftReceiving.{soft_receive}
use Rattle.receiver.specs.OldReceiving.{OldReceived, old_receive, old_soft_receive}

-- the same answer, and the record with the number of its repeats
abbrev pub in_step : OldReceived → Received
in_step y = record { answer = y.answer; next = with_count y.next }

-- of the record itself: it is valid where the old one is, and refused with what refuses that
module _ (old : OldRecord) where
  pub record TakenOverRecord : Type 0 where
    pub as_valid : valid (with_count old) ≡ valid_old old
    pub as_refused : first_refusal (record_table (with_count old)) ≡ old_refusal old

-- of a call
module _ (ord : List ℕ) (old : OldRecord) (bytes : List ℕ) where
  pub record TakenOverClaim : Type 0 where
    pub plain : receive ord (with_count old) bytes ≡ in_step (old_receive ord old bytes)
    pub soft : (confidences : List ℕ) → soft_receive ord (with_count old) bytes confidences ≡ in_step (old_soft_receive ord old bytes confidences)
