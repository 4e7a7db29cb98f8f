-- `order::list::each_once` meets its contract: what is seen and what is left are the numbers of the list throughout. Assumes nothing.
use mathlib.Core.Path.{◌≡◌}
use mathlib.Core.Bool.{◌||◌}
use Prim.Native.Nat.{ℕ, ◌^◌, ◌<◌}
use lib.ListN.{drop}
use Rattle.bits.specs.Bits.{bit}
use Rattle.order.proofs.Seen.{stands}
use Rattle.order.proofs.list.each_once.Given as goal

abbrev pub invariant-loop-j : goal.invariant-loop-j
invariant-loop-j l = (l.seen < 2 ^ 54) × ((k : ℕ) → k < 54 → (bit k l.seen || stands k (drop l.j-index l.list)) ≡ stands k l.list)
