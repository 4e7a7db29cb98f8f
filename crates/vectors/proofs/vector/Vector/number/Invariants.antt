-- `vectors::vector::Vector::number` is safe, ends and meets its contract: so many bytes make a number below that power of 256. Assumes nothing.
use Rattle.std.proofs.Common.{◌≡◌, ◌^◌, ◌<◌, ◌≤◌, length}
use Rattle.vectors.proofs.vector.Vector.number.Given as goal

abbrev pub invariant-loop-x : goal.invariant-loop-x
invariant-loop-x l = (length l.x-items ≡ l.size) × (l.size ≤ 8) × (l.n < 256 ^ l.x-index)
