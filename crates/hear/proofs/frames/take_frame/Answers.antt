-- `hear::frames::take_frame` meets its contract: the receiver takes frame k, and its line is added. Assumes nothing.
use mathlib.Core.Path.{refl, sym, ap, ◌∙◌}
use Prim.Native.Nat.{◌+◌}
use native.Mathlib.Omega.{arith}
use lib.ListN.{length}
use Rattle.order.proofs.DefaultOrder.{default_order_lem}
use Rattle.refusal.specs.Refusals.{number_of, numbered}
use Rattle.report.specs.Lines.{frame_line}
use Rattle.text.proofs.Additions.{line_added}
use Rattle.hear.proofs.frames.take_frame.Goals as goal

pub slice_bounds-receive-end-2 : goal.slice_bounds-receive-end-2
slice_bounds-receive-end-2 c = sym (ap length c.default_order-order.ensures ∙ default_order_lem.size)

pub returns : goal.returns
returns c =
    let a = c.args in
    let b = a.before in
    let x = c.receive-answer.result in
    let h = rw c.default_order-order.ensures at c.receive-answer.ensures in
    let q = line_added (frame_line a.k (numbered number_of x.answer)) a.out.now _ b.end 144 _ _ (c.frame_line.ensures.answer, (c.frame_line.ensures.written, c.frame_line.ensures.bound)) c.end_of.ensures c.requires.room in
    rw (← h) (record { «record» = refl; repeats = ap (λ n. b.repeats + n) c.repeat_of.ensures.equal; count = omega (arith, c.repeat_of.ensures.bound); sent = refl; line = q.0; bound = q.1 })
