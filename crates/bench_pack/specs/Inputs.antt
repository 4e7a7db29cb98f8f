-- A helper of a measurement, no part of document 01: the frames of the sets in an input.
use Rattle.std.specs.Prelude.{ℕ, List, take, drop}
use Rattle.set_frames.specs.Sending.{sent}

-- its first 54 bytes are the order, the sets follow
abbrev pub input_sent : List ℕ → List ℕ
input_sent input = sent (take 54 input) (drop 54 input)
