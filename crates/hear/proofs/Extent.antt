-- How much of the input is heard: all of it up to 9,362 frames, and never more frames than that. Assumes nothing.
use mathlib.Core.Path.{◌≡◌}
use mathlib.Core.List.{List}
use Prim.Native.Nat.{ℕ, ◌≤◌}
use native.Mathlib.Omega.{arith}
use lib.ListN.{length, length-take}
use lib.Seq.{take_all}
use Rattle.receiver.specs.Frames.{frames_in}
use Rattle.hear.specs.Call.{most_bytes, heard}

pub heard_all : (input : List ℕ) → length input ≤ 65534 → heard input ≡ input
heard_all input h = take_all most_bytes input (omega arith)

pub frames_most : (input : List ℕ) → frames_in (heard input) ≤ 9362
frames_most input = omega (arith, length-take most_bytes input)
