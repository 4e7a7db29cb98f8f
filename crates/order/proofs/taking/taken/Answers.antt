-- `order::taking::taken` meets its contract: the tests decide the refusal, and the bits are those of the order that the list is. Assumes nothing.
use mathlib.Core.Path.{◌≡◌, sym, ap, ◌∙◌, subst}
use mathlib.Core.List.{List}
use Prim.Native.Nat.{ℕ, ◌%◌}
use lib.ListN.{get_or}
use Rattle.bits.specs.Bits.{value, cut, carried}
use Rattle.std.proofs.lemmas.Result.{err_from_is_err_and}
use Rattle.bits.proofs.Tests.{T_true}
use Rattle.order.specs.Order.{place_of, bit_at}
use Rattle.order.specs.declared.tested.Order.{Order}
use Rattle.order.proofs.Orders.{is_order_only}
use Rattle.order.specs.Tested.{numbers}
use Rattle.order.proofs.Answers.{logical_is, length_owes, order_owes, padding_owes, bits_owes}
use Rattle.order.proofs.taking.taken.Goals as goal
use Rattle.order.proofs.taking.taken.Goals.{in-Default, in-Other}

pub returns-in_default : goal.returns-in_default
returns-in_default c = sym (length_owes c.args.frame.now c.args.order.now c.in_default.ensures.cases)

pub returns-in_err-order : goal.returns-in_err-order
returns-in_err-order c =
    let p = err_from_is_err_and c.from_residual.result c.from_residual.ensures.1 in
    rw (p.1, p.2, c.in_err-order.ensures.1) (sym (order_owes c.args.frame.now c.args.order.now c.in-Some.ensures.cases.long c.in_err-order.ensures.0))

pub returns-then-frame-ne0 : goal.returns-then-frame-ne0
returns-then-frame-ne0 c =
    let whole = c.in-Some.ensures.cases in
    sym (padding_owes c.args.frame.now c.args.order.now whole.long c.in_ok-order.ensures.1
    (subst (λ (l : List ℕ). get_or l 6 0 % 4 ≡ 0 → ⊥) whole.same c.if-frame-ne0.true))

pub returns : goal.returns
returns c =
    let a = c.args in
    let whole = c.in-Some.ensures.cases in
    let e = c.in_ok-order.ensures in
    let w : ℕ = c.placed_bits-placed.result in
    let places : w ≡ value (cut (bit_at a.frame.now) 0 56) =
    c.placed_bits-placed.ensures ∙ ap (λ (l : List ℕ). value (cut (bit_at l) 0 56)) whole.same in
    let taken : c.match-order.bits ≡ value (cut (λ j. carried 56 w (place_of (numbers c.in_ok-order.order) j)) 0 54) =
    elim c.match-order.branch [
      | in-Default s ↦ s.bits-is ∙ s.gather-bits.ensures ∙ ap (λ (o : Order). value (cut (λ j. carried 56 w (place_of (numbers o) j)) 0 54)) (sym s.in-Default.is)
      | in-Other s ↦ s.bits-is ∙ s.take_each-bits.ensures ∙ ap (λ (o : Order). value (cut (λ j. carried 56 w (place_of (numbers o) j)) 0 54)) (sym s.in-Other.is)
    ] in
    let clear = subst (λ (l : List ℕ). get_or l 6 0 % 4 ≡ 0) whole.same c.if-frame-ne0.false in (
      sym (bits_owes a.frame.now a.order.now whole.long e.1 clear c.match-order.bits
          (taken
          ∙ ap (λ (l : List ℕ). value (cut (λ j. carried 56 w (place_of l j)) 0 54)) e.0
          ∙ ap value (logical_is a.frame.now a.order.now (is_order_only a.order.now (T_true _ e.1)) w places))),
      e.0,
    )
