-- `receiver::receiving::receive` meets its contract: each case owes what the law of that case says. Assumes nothing.
use mathlib.Core.Path.{sym, ap, ◌∙◌}
use Prim.Native.Nat.{◌%◌}
use lib.Dec.{eqb}
use Rattle.bits.proofs.Tests.{true_T}
use Rattle.refusal.specs.Refusals.{first_refusal}
use Rattle.reading.specs.Reading.{reading_fits}
use Rattle.reading.proofs.Ranges.{read_fits}
use Rattle.receiver.specs.Receiving.{record_table}
use Rattle.receiver.specs.Steps.{step_unless}
use Rattle.receiver.proofs.Answers.{frame_owes, bits_owe}
use Rattle.receiver.proofs.receiving.receive.Goals as goal

pub step_unless_refused-requires : goal.step_unless_refused-requires
step_unless_refused-requires c = ap reading_fits c.read.ensures ∙ true_T _ (read_fits _)

pub returns-in-Ok : goal.returns-in-Ok
returns-in-Ok c =
    let a = c.args in
    let n = c.in-Ok.bits in
    c.step_unless_refused.ensures
    ∙ ap (step_unless (first_refusal (record_table a.rec)) a.rec (eqb (n % 2) 1)) c.read.ensures
    ∙ bits_owe a.order.now a.rec a.frame.now n (sym c.logical_bits.ensures ∙ c.in-Ok.is)

pub returns-in-Err : goal.returns-in-Err
returns-in-Err c =
    let a = c.args in
    c.refuse.ensures ∙ frame_owes a.order.now a.rec a.frame.now c.in-Err.refusal (sym c.logical_bits.ensures ∙ c.in-Err.is)
