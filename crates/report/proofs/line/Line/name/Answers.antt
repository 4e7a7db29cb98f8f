-- `report::line::Line::name` meets its contract: what is owed where there is room. Assumes nothing.
use mathlib.Core.Path.{refl}
use native.Mathlib.Omega.{arith}
use lib.ListN.{take, length-take}
use Rattle.text.proofs.Answers.{owed_put}
use Rattle.report.proofs.line.Line.name.Goals as goal

pub returns : goal.returns
returns c =
    let a = c.args in
    let l = a.self.now in
    let p = owed_put (take a.width a.name) l.end l.out.now _ _ _ (c.name.ensures.answer, c.name.ensures.written) c.end_of-self.ensures in
    record { put = p; bound = omega (arith, length-take a.width a.name); same = refl }
