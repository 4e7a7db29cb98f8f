-- `bursts::width::burst_width` meets its contract: it is refused where the list is no order. Assumes nothing.
use mathlib.Core.Path.{sym, ap, ◌∙◌}
use Rattle.std.specs.Prelude.{Ok}
use Rattle.bits.proofs.Tests.{T_true}
use Rattle.order.specs.Order.{is_order}
use Rattle.bursts.specs.Width.{width_answer}
use Rattle.bursts.proofs.width.burst_width.Goals as goal

pub smallest_distance-requires : goal.smallest_distance-requires
smallest_distance-requires c =
    T_true (is_order c.args.order.now) (sym c.is_order.ensures ∙ c.if-is_order.true)

pub returns-then-is_order : goal.returns-then-is_order
unfolding width_answer
returns-then-is_order c =
    let t = c in
    rw (sym t.is_order.ensures ∙ t.if-is_order.true) (ap Ok c.smallest_distance.ensures)

pub returns-else-is_order : goal.returns-else-is_order
unfolding width_answer
returns-else-is_order c = rw (sym c.is_order.ensures ∙ c.if-is_order.false)
