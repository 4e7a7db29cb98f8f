-- `codebook_values::lowering::lower` meets its contract: the values from `at` on are lowered, and `most` is asked of the one below them. Assumes nothing.
use mathlib.Core.Path.{◌≡◌}
use Prim.Native.Nat.{◌+◌, ◌*◌, ◌≤◌}
use lib.ListN.{length, take, drop}
use lib.IntN.{nat_abs}
use Rattle.codebook_values.specs.Values.{highest, most_below, lowered}
use Rattle.codebook_values.proofs.LoweredTurns.{lowered_from}
use Rattle.codebook_values.proofs.lowering.lower.Given as goal

abbrev pub invariant-loop-at : goal.invariant-loop-at
invariant-loop-at l =
    (l.at ≤ 10) × (length l.out ≡ length l.initial.out) × (nat_abs l.most + 50000000 * l.at ≤ 4450000000)
    × (l.most ≡ most_below highest (lowered highest (drop l.at (take 10 l.initial.out)))) × (l.out ≡ lowered_from highest l.at (take 10 l.initial.out) (drop 10 l.initial.out))
