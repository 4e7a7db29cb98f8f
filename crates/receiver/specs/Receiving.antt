-- Document 01, "Receiver" and "Refusals by place", with document 02, T-07: what a receiving call answers and the record it gives, in the order that it is lent.
use Rattle.std.specs.Prelude.{ℕ, not, List, [], ◌∷◌, ◌++◌, Option}
use Rattle.refusal.specs.Refusals.{Table, first_refusal}
use Rattle.refusal.specs.declared.Refusal.{Refusal}
use Rattle.refusal.specs.declared.Refusal.TheVariants.{InvalidRecord}
use Rattle.order.specs.Order.{logical_bit, frame_table}
use Rattle.order.specs.Fields.{sync_bit}
use Rattle.reading.specs.Reading.{read}
use Rattle.records.specs.declared.Record.{Record}
use Rattle.receiver.specs.declared.Received.{Received}
use Rattle.records.specs.Records.{valid}
use Rattle.receiver.specs.Steps.{step_unless}

-- what refuses a record
abbrev pub record_table : Record → Table
record_table r = (not (valid r), InvalidRecord) ∷ []

-- what refuses a call: what refuses the frame in this order; what refuses the record
abbrev pub receive_table : List ℕ → Record → List ℕ → Table
receive_table ord r bytes = frame_table ord bytes ++ record_table r

-- its refusal
abbrev pub receive_refusal : List ℕ → Record → List ℕ → Option Refusal
receive_refusal ord r bytes = first_refusal (receive_table ord r bytes)

-- the frame's logical bits are read, and its sync bit goes to the result
abbrev pub receive_unless : Option Refusal → List ℕ → Record → List ℕ → Received
receive_unless f ord r bytes = step_unless f r (sync_bit (logical_bit ord bytes)) (read (logical_bit ord bytes))

unfoldable pub receive : List ℕ → Record → List ℕ → Received
receive ord r bytes = receive_unless (receive_refusal ord r bytes) ord r bytes
