-- `report::summary::last_line` meets its contract: three parts and the line end after them, which are then put into the buffer whole. Assumes nothing.
use Prim.Native.Nat.{◌<◌}
use native.Mathlib.Omega.{arith}
use lib.ListN.{length-take}
use Rattle.text.proofs.Parts.{ended_lt, ended_le, ended_owes}
use Rattle.report.specs.Lines.{counts, last_line}
use Rattle.report.proofs.summary.last_line.Goals as goal
use Rattle.report.proofs.summary.last_line.Goals.{After-put_counts-end}

-- there is room for the line end
ends : (c : After-put_counts-end) → c.put_counts-end.result < 144
ends c =
    let w = c.put_counts-end.ensures in
    ended_lt 144 _ (counts c.args.frames c.args.repeats c.args.left) _ 82 (w.put, w.bound) (omega arith)

pub overflow_add-line : goal.overflow_add-line
overflow_add-line c = record { fits = omega (arith, ends (goal.at.overflow_add-line c).After-put_counts-end) }

pub slice_bounds-line-end : goal.slice_bounds-line-end
slice_bounds-line-end c = omega (arith, ends (goal.at.slice_bounds-line-end c).After-put_counts-end, c.put_counts-end.auto.out)

pub slice_bounds-place-end : goal.slice_bounds-place-end
slice_bounds-place-end c = simp length-take (omega (arith, ends (goal.at.slice_bounds-place-end c).After-put_counts-end, c.put_counts-end.auto.out))

pub returns : goal.returns
unfolding last_line
returns c =
    let a = c.args in
    let text = counts a.frames a.repeats a.left in
    let w = c.put_counts-end.ensures in
    let p = c.place.ensures in
    let o = ended_owes 144 _ text _ 82 (w.put, w.bound) (omega arith) a.out.now _ a.at _ (p.answer, p.written) in
    record { answer = o.0; written = o.1; bound = ended_le 144 _ text _ 82 (w.put, w.bound) (omega arith) }
