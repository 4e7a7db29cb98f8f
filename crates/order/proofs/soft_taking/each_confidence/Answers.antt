-- `order::soft_taking::each_confidence` meets its contract: before each turn the bits of the places before it have their confidences. Assumes nothing.
use mathlib.Core.Path.{◌≡◌, refl, subst}
use Prim.Native.Nat.{ℕ}
use native.Mathlib.Omega.{arith}
use Rattle.bits.proofs.Tests.{T_true}
use Rattle.order.proofs.Orders.{is_order_only}
use Rattle.order.proofs.Places.{entry_lt}
use Rattle.order.proofs.SoftTaking.{FilledTo, filled_more, filled_all}
use Rattle.order.proofs.soft_taking.each_confidence.Goals as goal

pub loop-t-init : goal.loop-t-init
loop-t-init c = (refl, λ j l h. absurd (omega arith))

pub bounds-found-from : goal.bounds-found-from
bounds-found-from c =
    let o = is_order_only c.args.order.list.now (T_true _ c.args.order.is_order) in
    let e = entry_lt c.args.order.list.now o c.loop-t.t (omega (arith, o.size)) in
    omega (arith, e)

pub loop-t-preserved : goal.loop-t-preserved
loop-t-preserved c =
    let L = c.loop-t in
    let o = is_order_only c.args.order.list.now (T_true _ c.args.order.is_order) in
    rw c.from.ensures (filled_more c.args.order.list.now o c.args.confidences.now L.t L.found (omega (arith, o.size)) L.invariant)

pub returns : goal.returns
returns c =
    let L = c.loop-t in
    let o = is_order_only c.args.order.list.now (T_true _ c.args.order.is_order) in
    let e : L.t ≡ 54 = omega (arith, o.size) in
    filled_all c.args.order.list.now o c.args.confidences.now L.found
    (subst (λ (t : ℕ). FilledTo c.args.order.list.now c.args.confidences.now t L.found) e L.invariant)
