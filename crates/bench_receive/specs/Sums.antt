-- Helpers of a measurement, no part of document 01: all numbers that the frames of a call are answered, added up.
use Rattle.std.specs.Prelude.{ℕ, ◌/◌, List, length, take, drop}
use Rattle.std.specs.Simd.{first_chunks}
use Rattle.records.specs.Records.{fresh}
use Rattle.receiver.specs.Receiving.{receive}
use Rattle.answer_sums.specs.Sums.{sum_from}

-- of all whole frames of seven bytes, in an order, from a fresh record on
abbrev pub frames_sum : List ℕ → List ℕ → ℕ
frames_sum ord bytes = sum_from (λ rec frame. receive ord rec frame) fresh (first_chunks 7 (length bytes / 7) bytes)

-- of an input: its first 54 bytes are the order, the frames follow
abbrev pub input_sum : List ℕ → ℕ
input_sum input = frames_sum (take 54 input) (drop 54 input)
