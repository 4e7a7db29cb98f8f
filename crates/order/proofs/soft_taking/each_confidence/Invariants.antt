-- `order::soft_taking::each_confidence` meets its contract: before each turn the bits of the places before it have their confidences. Assumes nothing.
use Rattle.order.proofs.SoftTaking.{FilledTo}
use Rattle.order.proofs.soft_taking.each_confidence.Given as goal

abbrev pub invariant-loop-t : goal.invariant-loop-t
invariant-loop-t l = FilledTo l.list l.confidences l.t l.found
