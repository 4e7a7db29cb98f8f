-- `order::soft_taking::default_confidences` meets its contract: before each turn the confidences of the bits before it are known. Assumes nothing.
use Prim.Native.Nat.{◌+◌, ◌*◌}
use Rattle.order.specs.Order.{default_order}
use Rattle.order.specs.SoftTaking.{confidence_of}
use Rattle.order.proofs.SoftTaking.{KnownTo}
use Rattle.order.proofs.soft_taking.default_confidences.Given as goal

abbrev pub invariant-loop-nine : goal.invariant-loop-nine
invariant-loop-nine l = KnownTo (confidence_of default_order l.confidences) (9 * l.nine) l.found

abbrev pub invariant-loop-i : goal.invariant-loop-i
invariant-loop-i l = KnownTo (confidence_of default_order l.confidences) (9 * l.nine + l.i) l.found
