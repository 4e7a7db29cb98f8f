-- `order::place::place_each` meets its contract: before each turn the places before it are joined. Assumes nothing.
use mathlib.Core.Path.{◌≡◌}
use Rattle.bits.specs.Bits.{value, cut, carried}
use Rattle.order.specs.Order.{placed}
use Rattle.order.proofs.place.place_each.Given as goal

abbrev pub invariant-loop-j : goal.invariant-loop-j
invariant-loop-j l = l.places ≡ value (cut (placed l.order.list.now (carried 54 l.bits)) 0 l.j-index)
