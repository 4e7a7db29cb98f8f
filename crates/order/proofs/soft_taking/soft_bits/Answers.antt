-- `order::soft_taking::soft_bits` meets its contract: the frame decides first, and then the number of confidences. Assumes nothing.
use mathlib.Core.Path.{sym, ap, ◌∙◌}
use mathlib.Core.List.{List}
use Prim.Native.Nat.{ℕ}
use Rattle.bits.specs.Bits.{cut}
use Rattle.std.proofs.lemmas.Result.{err_from_is_err_and}
use Rattle.order.specs.SoftTaking.{confidence_of}
use Rattle.order.specs.Tested.{numbers}
use Rattle.order.specs.declared.tested.Order.{Order}
use Rattle.order.proofs.SoftAnswers.{frame_owes, count_owes, soft_owes}
use Rattle.order.proofs.soft_taking.soft_bits.Goals as goal

pub returns-in_err-bits : goal.returns-in_err-bits
returns-in_err-bits c =
    let a = c.args in
    let p = err_from_is_err_and c.from_residual.result c.from_residual.ensures.1 in
    rw (p.1, p.2) (frame_owes a.order.now a.frame.now a.confidences.now _ c.in_err-bits.ensures)

pub returns-in_default : goal.returns-in_default
returns-in_default c =
    let a = c.args in
    count_owes a.order.now a.frame.now a.confidences.now c.in_ok-bits.bits c.in_ok-bits.ensures.0 c.in_default.ensures.cases

pub returns-in-Default : goal.returns-in-Default
returns-in-Default c =
    let a = c.args in
    let lent : List ℕ = c.in-Some.confidences.now in
    soft_owes a.order.now a.frame.now a.confidences.now c.in_ok-bits.bits c.in_ok-bits.ensures.0 c.in-Some.ensures.cases.long
    (numbers c.in_ok-bits.order) lent _ c.in_ok-bits.ensures.1 c.in-Some.ensures.cases.same
    (c.default_confidences-confidences.ensures ∙ ap (λ (o : Order). cut (confidence_of (numbers o) lent) 0 54) (sym c.in-Default.is))

pub returns-in-Other : goal.returns-in-Other
returns-in-Other c =
    let a = c.args in
    let lent : List ℕ = c.in-Some.confidences.now in
    soft_owes a.order.now a.frame.now a.confidences.now c.in_ok-bits.bits c.in_ok-bits.ensures.0 c.in-Some.ensures.cases.long
    (numbers c.in_ok-bits.order) lent _ c.in_ok-bits.ensures.1 c.in-Some.ensures.cases.same
    (c.each_confidence-confidences.ensures ∙ ap (λ (o : Order). cut (confidence_of (numbers o) lent) 0 54) (sym c.in-Other.is))
