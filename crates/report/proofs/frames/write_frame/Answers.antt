-- `report::frames::write_frame` meets its contract: the number, and the answer to the line end. Assumes nothing.
use lib.Dec.{lit≤}
use Rattle.text.specs.Text.{ascii, decimal, field}
use Rattle.report.specs.Lines.{result_text, frame_line}
use Rattle.report.proofs.Adding.{adds_append, adds_group, adds_within}
use Rattle.report.proofs.frames.write_frame.Goals as goal

pub returns-in-Ok : goal.returns-in-Ok
unfolding frame_line
returns-in-Ok g c =
    let n = field "frame=" (decimal c.args.k) in
    let p = adds_append n _ c.number.ensures c.write_result.ensures in
    rw c.in-Ok.is (adds_within 144 (lit≤ tt) (adds_group n (result_text _) (ascii "\n") p))

pub returns-in-Err : goal.returns-in-Err
unfolding frame_line
returns-in-Err g c =
    let b = rw c.number-in-Err.ensures at c.byte.ensures in
    let p = adds_append _ _ c.number.ensures b in
    rw c.in-Err.is (adds_within 144 (lit≤ tt) (adds_append _ (ascii "\n") p c.name.ensures))
