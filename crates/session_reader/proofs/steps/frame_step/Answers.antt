-- `session_reader::steps::frame_step` meets its contract: the frame of the line, or its refusal. Assumes nothing.
use mathlib.Core.Path.{sym, ap}
use native.Mathlib.Omega.{arith}
use lib.ListN.{drop, length-drop}
use Rattle.session_lines.specs.Lines.{line_at}
use Rattle.session_lines.proofs.FrameScans.{frame_is}
use Rattle.session_lines.proofs.LinesRead.{line_refused, line_taken, line_good}
use Rattle.session_reader.specs.Steps.{Answer, stays, frame_step}
use Rattle.session_reader.proofs.steps.frame_step.Goals as goal

pub overflow_add-result : goal.overflow_add-result
overflow_add-result c =
    let a = c.args in
    let line = line_at a.text.now a.place in
    let p = line_taken line c.in-Ok.frame (sym c.in-Ok.ensures) in
    omega (arith, (frame_is (drop a.place a.text.now) (line_good line p.0)).0, length-drop a.place a.text.now)

pub returns-in-Ok : goal.returns-in-Ok
unfolding frame_step
returns-in-Ok c =
    let p = line_taken (line_at c.args.text.now c.args.place) c.in-Ok.frame (sym c.in-Ok.ensures) in
    rw (p.0, ← p.1)

pub returns-in-Err : goal.returns-in-Err
unfolding frame_step
returns-in-Err c =
    let p = line_refused (line_at c.args.text.now c.args.place) c.in-Err.refusal (sym c.in-Err.ensures) in
    rw p (ap (λ (answer : Answer). stays answer c.args.at) c.refused.ensures)
