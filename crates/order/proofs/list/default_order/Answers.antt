-- `order::list::default_order` meets its contract: before each turn the bits before it are named, and the place is carried as far. Assumes nothing.
use mathlib.Core.Path.{◌≡◌, refl, ap, ◌∙◌}
use Prim.Native.Nat.{ℕ, suc, ◌+◌, ◌*◌}
use native.Mathlib.Omega.{arith}
use Rattle.order.specs.Carrying.{carried_place}
use Rattle.order.proofs.Carrying.{carried_more, carried_lt}
use Rattle.order.proofs.Naming.{named, named_more, named_all}
use Rattle.order.proofs.list.default_order.Goals as goal

pub loop-nine-init : goal.loop-nine-init
unfolding carried_place named
loop-nine-init c = (refl, refl)

pub bounds-entries-place : goal.bounds-entries-place
bounds-entries-place c = omega (arith, carried_lt (9 * c.loop-nine.nine + c.loop-i.i))

pub next_place-place-requires : goal.next_place-place-requires
next_place-place-requires c = omega (arith, carried_lt (9 * c.loop-nine.nine + c.loop-i.i))

pub loop-i-preserved : goal.loop-i-preserved
loop-i-preserved c =
    let L = c.loop-i in
    let n : ℕ = 9 * c.loop-nine.nine + L.i in
    let e : 9 * c.loop-nine.nine + (L.i + 1) ≡ suc n = omega arith in
    (c.next_place-place.ensures ∙ carried_more n _ L.place e L.invariant.0, named_more n _ L.place L.entries e L.invariant.0 L.invariant.1)

pub returns : goal.returns
returns c =
    let L = c.loop-nine in
    let e : 9 * L.nine ≡ 54 = omega arith in
    L.invariant.1 ∙ ap named e ∙ named_all
