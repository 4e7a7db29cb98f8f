-- Helpers of a measurement, no part of document 02: frames of seven bytes that stand one after another, each with its 54 confidences after it;
-- what a receiver makes of each, in one order; and all numbers that they are answered, added up.
use Rattle.std.specs.Prelude.{ℕ, ◌/◌, List, length, take, drop}
use Rattle.std.specs.Simd.{first_chunks}
use Rattle.records.specs.declared.Record.{Record}
use Rattle.records.specs.Records.{fresh}
use Rattle.receiver.specs.declared.Received.{Received}
use Rattle.receiver.specs.SoftReceiving.{soft_receive}
use Rattle.answer_sums.specs.Sums.{sum_from}

-- what a frame with its confidences after it is answered, and the record after it
abbrev pub received : List ℕ → Record → List ℕ → Received
received ord rec bytes = soft_receive ord rec (take 7 bytes) (drop 7 bytes)

-- of all whole frames with their confidences, from a fresh record on
abbrev pub frames_sum : List ℕ → List ℕ → ℕ
frames_sum ord bytes = sum_from (λ rec frame. received ord rec frame) fresh (first_chunks 61 (length bytes / 61) bytes)

-- of an input: its first 54 bytes are the order, the frames follow
abbrev pub input_sum : List ℕ → ℕ
input_sum input = frames_sum (take 54 input) (drop 54 input)
