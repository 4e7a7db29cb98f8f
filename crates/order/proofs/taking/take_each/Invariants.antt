-- `order::taking::take_each` meets its contract: before each turn the bits of the places before it stand where the order names them. Assumes nothing.
use Prim.Native.Nat.{◌^◌, ◌<◌}
use Rattle.bits.specs.Bits.{carried}
use Rattle.order.proofs.Named.{Left, TakenTo}
use Rattle.order.proofs.taking.take_each.Given as goal

abbrev pub invariant-loop-j : goal.invariant-loop-j
invariant-loop-j l =
    (l.bits < 2 ^ 54) × Left l.placed l.j-index l.left × TakenTo l.order.list.now (carried 56 l.placed) l.j-index l.bits
