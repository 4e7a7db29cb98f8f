-- `order::list::each_once` meets its contract: what is seen and what is left are the numbers of the list throughout. Assumes nothing.
use mathlib.Core.Path.{◌≡◌, sym, ap, ◌∙◌}
use mathlib.Core.Bool.{◌||◌, or-false}
use mathlib.Core.List.{List, []}
use Prim.Native.Nat.{ℕ, ◌≤◌, ◌<◌}
use native.Mathlib.Omega.{arith}
use lib.ListN.{length, get_or, drop, drop_of_length-le}
use Rattle.bits.specs.Bits.{bit}
use Rattle.order.proofs.Orders.{entry_none}
use Rattle.order.proofs.Seen.{stands, seen_next, seen_lt, seen_order}
use Rattle.order.proofs.list.each_once.Goals as goal

pub returns-then-j-ge54 : goal.returns-then-j-ge54
returns-then-j-ge54 c = sym (entry_none c.args.list.now c.loop-j.j-index (omega arith) (λ h. omega (arith, h)))

pub loop-j-preserved : goal.loop-j-preserved
loop-j-preserved c =
    let L = c.loop-j in
    let list = c.args.list.now in
    let h : get_or list L.j-index 0 < 54 = omega arith in
    (seen_lt L.seen (get_or list L.j-index 0) L.invariant.0 h, λ k q. seen_next k L.seen list L.j-index (omega arith) h q ∙ L.invariant.1 k q)

pub returns : goal.returns
returns c =
    let L = c.loop-j in
    let list = c.args.list.now in
    let size : length list ≡ 54 = omega arith in
    let m : length list ≤ L.j-index = omega arith in
    let d : drop L.j-index list ≡ [] = drop_of_length-le list m in
    seen_order list L.seen size L.invariant.0
    (λ k h. sym (or-false (bit k L.seen)) ∙ ap (λ (l : List ℕ). bit k L.seen || stands k l) (sym d) ∙ L.invariant.1 k h)
