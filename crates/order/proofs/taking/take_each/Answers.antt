-- `order::taking::take_each` meets its contract: before each turn the bits of the places before it stand where the order names them. Assumes nothing.
use mathlib.Core.Path.{◌≡◌, sym, ap, subst}
use mathlib.Core.Bool.{Bool}
use Prim.Native.Nat.{ℕ}
use native.Mathlib.Nat.{sub-zero}
use native.Mathlib.Omega.{arith}
use lib.Bits.{or_lt}
use lib.Dec.{lit<}
use lib.ListN.{get_or}
use Rattle.bits.specs.Bits.{bit, carried}
use Rattle.bits.proofs.Tests.{T_true}
use Rattle.order.specs.Order.{Order}
use Rattle.order.specs.Taking.{OneNamed}
use Rattle.order.proofs.Orders.{is_order_only}
use Rattle.order.proofs.Places.{entry_lt}
use Rattle.order.proofs.Named.{left_more, left_first, TakenTo, taken_none, taken_more, taken_all}
use Rattle.order.proofs.taking.take_each.Goals as goal
use Rattle.order.proofs.taking.take_each.Goals.{Start}

-- the list is an order
module _ (s : Start) where
  order : Order s.args.order.list.now
  order = is_order_only s.args.order.list.now (T_true _ s.args.order.is_order)

pub loop-j-init : goal.loop-j-init
loop-j-init c = (lit< tt, λ k a b. ap (λ (i : ℕ). bit i c.args.placed) (sym (sub-zero k)), taken_none c.args.order.list.now (order (goal.at.loop-j-init c).Start) (carried 56 c.args.placed))

pub bit_named-bits-requires : goal.bit_named-bits-requires
bit_named-bits-requires c = entry_lt c.args.order.list.now (order (goal.at.bit_named-bits-requires c).Start) c.loop-j.j-index (omega arith)

pub loop-j-preserved : goal.loop-j-preserved
loop-j-preserved c =
    let L = c.loop-j in
    let a = c.args in
    let list = a.order.list.now in
    let t = L.j-index in
    let x = c.bit_named-bits in
    let here : OneNamed (get_or list t 0) (carried 56 a.placed t) x.result =
    subst (λ (b : Bool). OneNamed (get_or list t 0) b x.result) (left_first a.placed t L.left L.invariant.1 (omega arith)) x.ensures.bit in (
      or_lt 54 L.bits x.result L.invariant.0 x.ensures.bound,
      left_more a.placed t L.left L.invariant.1,
      taken_more list (order (goal.at.loop-j-preserved c).Start) (carried 56 a.placed) t L.bits x.result (omega arith) L.invariant.2 here,
    )

pub returns : goal.returns
returns c =
    let L = c.loop-j in
    let a = c.args in
    let e : L.j-index ≡ 54 = omega arith in
    taken_all a.order.list.now (order (goal.at.returns c).Start) (carried 56 a.placed) L.bits L.invariant.0
    (subst (λ (t : ℕ). TakenTo a.order.list.now (carried 56 a.placed) t L.bits) e L.invariant.2)
