-- `vectors::main` is safe and ends: i is at most 4,000,000, and no more than i vectors differ. Assumes nothing.
use Rattle.std.proofs.Common.{◌≡◌, ◌-◌, ◌≤◌, length}
use Rattle.vectors.proofs.main.Given as goal

abbrev pub invariant-loop-i : goal.invariant-loop-i
invariant-loop-i l = (l.i ≤ 4000000) × (length l.bytes ≡ 256) × (l.differences ≤ l.i)

abbrev pub decreases-loop-i : goal.decreases-loop-i
decreases-loop-i l = 4000000 - l.i
