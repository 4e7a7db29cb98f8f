-- `report::fields::write_lsf` meets its contract: four numbers, one after the other. Assumes nothing.
use mathlib.Core.List.{◌++◌}
use Rattle.text.specs.Text.{decimal, field}
use Rattle.report.specs.Lines.{lsf_text}
use Rattle.report.proofs.Adding.{adds_append}
use Rattle.report.proofs.fields.write_lsf.Goals as goal

pub returns : goal.returns
unfolding lsf_text
returns c =
    let x = c.args.x in
    let p1 = field " lsf=" (decimal x.l1) in
    let p2 = field "," (decimal x.l2) in
    let p3 = field "," (decimal x.l3) in
    let p4 = field "," (decimal x.l4) in
    let w2 = adds_append p1 p2 c.byte.ensures c.byte-2.ensures in
    let w3 = adds_append (p1 ++ p2) p3 w2 c.byte-3.ensures in
    adds_append (p1 ++ p2 ++ p3) p4 w3 c.byte-4.ensures
