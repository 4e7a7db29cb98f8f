-- `order::place::place_bits` meets its contract: the places are those of the order that the list is. Assumes nothing.
use mathlib.Core.Path.{◌≡◌, sym, ap, ◌∙◌}
use mathlib.Core.List.{List}
use Prim.Native.Nat.{ℕ}
use Rattle.bits.specs.Bits.{value, cut, carried}
use Rattle.std.proofs.lemmas.Result.{err_from_is_err_and}
use Rattle.order.specs.Order.{placed}
use Rattle.order.specs.Tested.{numbers}
use Rattle.order.specs.declared.tested.Order.{Order}
use Rattle.order.proofs.Placing.{none_owes, frame_owes}
use Rattle.order.proofs.place.place_bits.Goals as goal
use Rattle.order.proofs.place.place_bits.Goals.{in-Default, in-Other}

pub returns-in_err-tested : goal.returns-in_err-tested
returns-in_err-tested c =
    let a = c.args in
    let p = err_from_is_err_and c.from_residual.result c.from_residual.ensures.1 in
    rw (p.1, p.2, c.in_err-tested.ensures.1) (none_owes a.order.now (carried 54 a.bits) c.in_err-tested.ensures.0)

pub returns : goal.returns
returns c =
    let a = c.args in
    let e = c.in_ok-tested.ensures in
    let places : c.match-branch-2.places ≡ value (cut (placed (numbers c.in_ok-tested.field-0) (carried 54 a.bits)) 0 56) =
    elim c.match-branch-2.branch [
      | in-Default s ↦ s.places-is ∙ s.scatter-places.ensures ∙ ap (λ (o : Order). value (cut (placed (numbers o) (carried 54 a.bits)) 0 56)) (sym s.in-Default.is)
      | in-Other s ↦ s.places-is ∙ s.place_each-places.ensures ∙ ap (λ (o : Order). value (cut (placed (numbers o) (carried 54 a.bits)) 0 56)) (sym s.in-Other.is)
    ] in
    frame_owes a.order.now (carried 54 a.bits) e.1 c.seven_bytes.result c.match-branch-2.places c.seven_bytes.ensures
    (places ∙ ap (λ (l : List ℕ). value (cut (placed l (carried 54 a.bits)) 0 56)) e.0)
