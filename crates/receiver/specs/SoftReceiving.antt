-- Document 02, T-05 and T-07: what a receiving call answers that is given a confidence for each place, and the record it gives, in the order that it is lent.
use Rattle.std.specs.Prelude.{ℕ, Bool, List, ◌++◌, Option}
use Rattle.refusal.specs.Refusals.{Table, first_refusal}
use Rattle.refusal.specs.declared.Refusal.{Refusal}
use Rattle.order.specs.Order.{logical_bit, frame_table}
use Rattle.order.specs.SoftTaking.{confidence_of, confidence_table}
use Rattle.order.specs.Fields.{sync_bit}
use Rattle.reading.specs.SoftReading.{soft_read}
use Rattle.records.specs.declared.Record.{Record}
use Rattle.receiver.specs.declared.Received.{Received}
use Rattle.receiver.specs.Steps.{step_unless}
use Rattle.receiver.specs.Receiving.{record_table}

-- what refuses a call: what refuses the frame in this order (2, 10, 3); other than 54 confidences (9), whatever the frame; what refuses the record (4)
abbrev pub soft_table : List ℕ → Record → List ℕ → List ℕ → Table
soft_table ord r bytes confidences = (frame_table ord bytes ++ confidence_table confidences) ++ record_table r

-- its refusal
abbrev pub soft_refusal : List ℕ → Record → List ℕ → List ℕ → Option Refusal
soft_refusal ord r bytes confidences = first_refusal (soft_table ord r bytes confidences)

-- as without confidences, but that the words of an unvoiced frame are chosen by them
abbrev pub soft_unless : Option Refusal → Record → (ℕ → Bool) → (ℕ → ℕ) → Received
soft_unless f r g q = step_unless f r (sync_bit g) (soft_read g q)

unfoldable pub soft_receive : List ℕ → Record → List ℕ → List ℕ → Received
soft_receive ord r bytes confidences = soft_unless (soft_refusal ord r bytes confidences) r (logical_bit ord bytes) (confidence_of ord confidences)
