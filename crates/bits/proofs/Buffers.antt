-- A read of any input into any buffer leaves what is said of it.
-- Assumes nothing.
use mathlib.Core.Path.{sym, ap, ◌∙◌}
use mathlib.Core.List.{List, ◌++◌}
use Prim.Native.Nat.{ℕ, ◌≤◌}
use native.Mathlib.Omega.{arith}
use lib.ListN.{length, take, drop, length-take}
use lib.Seq.{length-take-le, length_front, take-append_seam}
use Rattle.bits.specs.Lists.{ReadFrom}

-- as much of the input as the buffer takes, and the rest of the buffer as it was
pub read_leaves : (whole buffer : List ℕ) → let front = take (length buffer) whole in ReadFrom (front ++ drop (length front) buffer) (length front) whole
read_leaves whole buffer =
    let front = take (length buffer) whole in
    let fits : length front ≤ length buffer = rw (length-take (length buffer) whole) (omega arith) in
    let size = length_front buffer front (length front) (sym (length-take-le (length front) buffer fits)) in
    take-append_seam front (drop (length front) buffer) ∙ sym (ap (λ (n : ℕ). take n whole) size)
