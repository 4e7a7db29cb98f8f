-- `frame::packing::pack` meets its contract: the tests decide the refusal, and what is written is the frame. Assumes nothing.
use mathlib.Core.Path.{sym, ap, ◌∙◌}
use mathlib.Core.List.{List, ◌++◌}
use Prim.Native.Nat.{ℕ}
use lib.ListN.{drop}
use Rattle.bits.specs.Bits.{carried}
use Rattle.std.specs.Prelude.{Err}
use Rattle.std.proofs.lemmas.Result.{err_from_is_err_and}
use Rattle.frame.proofs.Answers.{number_frame, short_owes, set_owes, order_owes, packed_owes}
use Rattle.frame.proofs.packing.pack.Goals as goal

pub returns-then-out-lt7 : goal.returns-then-out-lt7
returns-then-out-lt7 c =
    let a = c.args in
    let p = short_owes a.order.now a.set a.sync a.out.now c.if-out-lt7.true in record { answer = p.0; written = p.1 }

pub returns-then-not-is_sendable : goal.returns-then-not-is_sendable
returns-then-not-is_sendable c =
    let a = c.args in
    let p = set_owes a.order.now a.set a.sync a.out.now c.if-out-lt7.false (sym c.is_sendable.ensures ∙ c.if-not-is_sendable.true) in
    record { answer = ap Err c.set_refusal.ensures ∙ p.0; written = p.1 }

pub returns-in_err-bytes : goal.returns-in_err-bytes
returns-in_err-bytes c =
    let a = c.args in
    let p = err_from_is_err_and c.from_residual.result c.from_residual.ensures.1 in
    let o = order_owes a.order.now a.set a.sync a.out.now c.if-out-lt7.false (sym c.is_sendable.ensures ∙ c.if-not-is_sendable.false)
    (carried 54 c.logical_number.result) _ (sym c.in_err-bytes.ensures) in
    record { answer = rw (p.1, p.2) o.0; written = o.1 }

pub logical_number-requires : goal.logical_number-requires
logical_number-requires c = sym c.is_sendable.ensures ∙ c.if-not-is_sendable.false

pub returns : goal.returns
returns c =
    let a = c.args in
    let number = c.logical_number in
    let p = packed_owes a.order.now a.set a.sync a.out.now c.if-out-lt7.false (sym c.is_sendable.ensures ∙ c.if-not-is_sendable.false)
    (carried 54 number.result) _ (sym c.in_ok-bytes.ensures) (number_frame a.order.now a.set a.sync number.result number.ensures) _
    (ap (λ (l : List ℕ). l ++ drop 7 a.out.now) c.copy_from_slice.ensures.after) in record { answer = p.0; written = p.1 }
