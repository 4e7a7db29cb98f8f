-- `report::line::Line::number` meets its contract: what is owed where there is room. Assumes nothing.
use mathlib.Core.Path.{refl}
use mathlib.Core.List.{◌++◌}
use native.Mathlib.Omega.{arith}
use lib.ListN.{take}
use Rattle.text.specs.Text.{decimal}
use Rattle.text.proofs.Answers.{owed_put}
use Rattle.text.proofs.Decimals.{decimal_length}
use Rattle.text.proofs.Parts.{field_le}
use Rattle.report.proofs.line.Line.number.Goals as goal

pub returns : goal.returns
returns c =
    let a = c.args in
    let l = a.self.now in
    let p = owed_put (take a.width a.name ++ decimal a.n) l.end l.out.now _ _ _ (c.number.ensures.answer, c.number.ensures.written) c.end_of-self.ensures in
    record { put = p; bound = field_le a.name a.width (decimal a.n) 20 (decimal_length 19 a.n (omega arith)); same = refl }
