-- `receiver::soft_receiving::receive_soft` meets its contract: each case owes what the law of that case says. Assumes nothing.
use mathlib.Core.Path.{sym, ap, ◌∙◌}
use Prim.Native.Nat.{◌%◌}
use lib.Dec.{eqb}
use Rattle.bits.proofs.Tests.{true_T}
use Rattle.refusal.specs.Refusals.{first_refusal}
use Rattle.reading.specs.Reading.{reading_fits}
use Rattle.reading.proofs.SoftRanges.{soft_read_fits}
use Rattle.receiver.specs.Receiving.{record_table}
use Rattle.receiver.specs.Steps.{step_unless}
use Rattle.receiver.proofs.SoftAnswers.{taking_owes, bits_owe}
use Rattle.receiver.proofs.soft_receiving.receive_soft.Goals as goal

pub step_unless_refused-requires : goal.step_unless_refused-requires
step_unless_refused-requires c = ap reading_fits c.read_soft-reading.ensures ∙ true_T _ (soft_read_fits _ _)

pub returns-in-Ok : goal.returns-in-Ok
returns-in-Ok c =
    let a = c.args in
    let x = c.in-Ok.taken in
    c.step_unless_refused.ensures
    ∙ ap (step_unless (first_refusal (record_table a.rec)) a.rec (eqb (x.bits % 2) 1)) c.read_soft-reading.ensures
    ∙ bits_owe a.order.now a.rec a.frame.now a.confidences.now x (sym c.soft_bits.ensures ∙ c.in-Ok.is)

pub returns-in-Err : goal.returns-in-Err
returns-in-Err c =
    let a = c.args in
    c.refuse.ensures ∙ taking_owes a.order.now a.rec a.frame.now a.confidences.now c.in-Err.refusal (sym c.soft_bits.ensures ∙ c.in-Err.is)
