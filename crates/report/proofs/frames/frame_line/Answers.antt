-- `report::frames::frame_line` meets its contract: the line is put where it is asked for, or into a buffer of its own first. Assumes nothing.
use mathlib.Core.Path.{sym}
use Prim.Native.Nat.{◌+◌, ◌≤◌}
use native.Mathlib.Omega.{arith}
use lib.ListN.{length, replicate}
use lib.Seq.{length-take-le}
use Rattle.text.proofs.Answers.{room_owes}
use Rattle.refusal.specs.Refusals.{numbered}
use Rattle.report.specs.Lines.{frame_line}
use Rattle.text.proofs.Parts.{line_end_le, line_owes}
use Rattle.report.proofs.frames.frame_line.Goals as goal
use Rattle.report.proofs.frames.frame_line.Goals.{After-put_frame-end}
use Rattle.report.proofs.frames.frame_line.Given.{Over}

pub returns-then-is_some_and : goal.returns-then-is_some_and
returns-then-is_some_and g c =
    let a = c.args in
    let line = frame_line a.k (numbered (g.E.Numbered.number) a.answer) in
    let e = c.put_frame.ensures in
    let room : a.at + length line ≤ length a.out.now = grind (arith) in
    let o = room_owes line a.at a.out.now _ _ room (e.put room) in
    record { answer = o.0; written = o.1; bound = e.bound }

-- the line ends within its buffer
ends : (g : Over) (c : After-put_frame-end g) → c.put_frame-end.result ≤ length c.put_frame-end.new.out
ends g c =
    let w = c.put_frame-end.ensures in
    let e = line_end_le (replicate 144 0) _ _ _ 144 (w.put, w.bound) (omega arith) in
    omega (arith, e, c.put_frame-end.auto.out)

pub slice_bounds-line-end : goal.slice_bounds-line-end
slice_bounds-line-end g c = ends g (goal.at.slice_bounds-line-end g c).After-put_frame-end

pub slice_bounds-place-end : goal.slice_bounds-place-end
slice_bounds-place-end g c = sym (length-take-le _ _ (ends g (goal.at.slice_bounds-place-end g c).After-put_frame-end))

pub returns : goal.returns
returns g c =
    let a = c.args in
    let line = frame_line a.k (numbered (g.E.Numbered.number) a.answer) in
    let w = c.put_frame-end.ensures in
    let p = c.place.ensures in
    let o = line_owes (replicate 144 0) _ line _ 144 (w.put, w.bound) (omega arith) a.out.now _ a.at _ (p.answer, p.written) in
    record { answer = o.0; written = o.1; bound = w.bound }
