-- `report::summary::put_counts` meets its contract: three parts, one after the other. Assumes nothing.
use mathlib.Core.List.{◌++◌}
use Rattle.std.proofs.Common.{rules}
use Rattle.text.specs.Text.{decimal, field}
use Rattle.report.proofs.Adding.{adds_append}
use Rattle.report.proofs.summary.put_counts.Goals as goal

pub returns-clause-put : goal.returns-clause-put
returns-clause-put c =
    let a = c.args in
    let two = field "frames=" (decimal a.frames) ++ field " repeats=" (decimal a.repeats) in
    let p = adds_append two (field " left=" (decimal a.left)) (adds_append (field "frames=" (decimal a.frames)) (field " repeats=" (decimal a.repeats)) c.number.ensures c.number-2.ensures) c.number-3.ensures in
    search (rules, p.put, p.same)
