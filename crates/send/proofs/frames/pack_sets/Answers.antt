-- `send::frames::pack_sets` meets its contract: the list that is lent is the default order, and the output has room. Assumes nothing.
use mathlib.Core.Path.{refl, sym, ap, ◌∙◌}
use lib.ListN.{length}
use lib.Seq.{length-take-le}
use Rattle.order.specs.Order.{default_order}
use Rattle.order.proofs.DefaultOrder.{default_order_lem}
use Rattle.set_frames.proofs.Room.{answered, packed_is}
use Rattle.send.proofs.frames.pack_sets.Goals as goal

pub slice_bounds-pack_sets-end : goal.slice_bounds-pack_sets-end
slice_bounds-pack_sets-end c = sym (ap length c.default_order-order.ensures ∙ default_order_lem.size)

pub unwrap-requires : goal.unwrap-requires
unwrap-requires c =
    let answer = rw c.default_order-order.ensures at c.pack_sets.ensures.answer in
    rw (answer, answered default_order c.args.bytes.now c.args.out.now c.requires) refl

pub returns : goal.returns
returns c =
    let a = c.args in
    let answer = rw c.default_order-order.ensures at c.pack_sets.ensures.answer in
    let after = rw c.default_order-order.ensures at c.pack_sets.ensures.written in
    let x = packed_is default_order a.bytes.now a.out.now c.requires c.unwrap.result _ (sym answer ∙ c.unwrap.ensures) after in
    record { end = x.0; size = (x.1, sym (length-take-le _ _ x.1)); written = x.2 }
