-- Document 01, "Receiver" and "Program hear": the frames of seven bytes that stand one after another, and what a receiver that starts fresh makes
-- of each, in an order that is the same for all (document 02, T-07).
use Rattle.std.specs.Prelude.{ℕ, zero, suc, ◌*◌, ◌/◌, List, length, take, drop, Result}
use Rattle.refusal.specs.declared.Refusal.{Refusal}
use Rattle.records.specs.declared.Record.{Record}
use Rattle.records.specs.Records.{fresh}
use Rattle.receiver.specs.declared.FrameResult.{FrameResult}
use Rattle.receiver.specs.Receiving.{receive}

-- how many whole frames there are
abbrev pub frames_in : List ℕ → ℕ
frames_in bytes = length bytes / 7

-- frame k, counted from 0
abbrev pub frame_at : List ℕ → ℕ → List ℕ
frame_at bytes k = take 7 (drop (7 * k) bytes)

-- the record after k frames
unfoldable pub record_after : List ℕ → List ℕ → ℕ → Record
record_after ord bytes zero = fresh
record_after ord bytes (suc k) = (receive ord (record_after ord bytes k) (frame_at bytes k)).next

-- what frame k is answered
unfoldable pub answer_at : List ℕ → List ℕ → ℕ → Result FrameResult Refusal
answer_at ord bytes k = (receive ord (record_after ord bytes k) (frame_at bytes k)).answer
