-- `order::place::place_each` meets its contract: before each turn the places before it are joined. Assumes nothing.
use mathlib.Core.Path.{◌≡◌, ap, ◌∙◌}
use Prim.Native.Nat.{ℕ, ◌<◌}
use native.Mathlib.Omega.{arith}
use Rattle.bits.specs.Bits.{value, cut, carried}
use Rattle.bits.proofs.Numbers.{cut_value_lt}
use Rattle.bits.proofs.Tests.{T_true}
use Rattle.order.specs.Order.{Order, placed}
use Rattle.order.proofs.Orders.{is_order_only}
use Rattle.order.proofs.Places.{entry_lt}
use Rattle.order.proofs.Placing.{place_more, places_all}
use Rattle.order.proofs.place.place_each.Goals as goal
use Rattle.order.proofs.place.place_each.Goals.{Start}

-- the list is an order
module _ (s : Start) where
  order : Order s.args.order.list.now
  order = is_order_only s.args.order.list.now (T_true _ s.args.order.is_order)

pub overflow_mul-places : goal.overflow_mul-places
overflow_mul-places c = omega (arith, cut_value_lt (placed c.args.order.list.now (carried 54 c.args.bits)) 0 c.loop-j.j-index 54 c.loop-j.places (omega arith) c.loop-j.invariant)

pub overflow_shl-places : goal.overflow_shl-places
overflow_shl-places c =
    let o = order (goal.at.overflow_shl-places c).Start in
    omega (arith, entry_lt _ o c.loop-j.j-index (omega (arith, o.size)))

pub overflow_add-places : goal.overflow_add-places
overflow_add-places c = omega (arith, cut_value_lt (placed c.args.order.list.now (carried 54 c.args.bits)) 0 c.loop-j.j-index 54 c.loop-j.places (omega arith) c.loop-j.invariant)

pub loop-j-preserved : goal.loop-j-preserved
loop-j-preserved c =
    let o = order (goal.at.loop-j-preserved c).Start in
    let h : c.loop-j.j-index < 54 = omega (arith, o.size) in
    place_more c.args.order.list.now c.args.bits c.loop-j.j-index c.loop-j.places h (entry_lt c.args.order.list.now o c.loop-j.j-index h) c.loop-j.invariant

pub overflow_mul-result : goal.overflow_mul-result
overflow_mul-result c = omega (arith, cut_value_lt (placed c.args.order.list.now (carried 54 c.args.bits)) 0 c.loop-j.j-index 54 c.loop-j.places (omega arith) c.loop-j.invariant)

pub returns : goal.returns
returns c =
    let L = c.loop-j in
    let list = c.args.order.list.now in
    let e : L.j-index ≡ 54 = omega arith in
    places_all list c.args.bits L.places (L.invariant ∙ ap (λ (n : ℕ). value (cut (placed list (carried 54 c.args.bits)) 0 n)) e)
