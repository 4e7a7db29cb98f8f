-- `value_lines::lines::value_line` meets its contract: sign, digits and the line end after them, which are then put into the buffer whole. Assumes nothing.
use Prim.Native.Nat.{◌<◌}
use native.Mathlib.Omega.{arith}
use lib.ListN.{length-take, replicate}
use mir.Syntax.{w64}
use mir.Val.{to_z, of_z}
use mir.ValLaws.{to_z-of_z}
use Rattle.text.specs.Text.{signed}
use Rattle.text.proofs.Answers.{owed_put}
use Rattle.text.proofs.Parts.{Part, ended_lt, ended_le, ended_owes}
use Rattle.text.proofs.Sizes.{signed_length_le}
use Rattle.value_lines.specs.Lines.{value_line}
use Rattle.value_lines.proofs.lines.value_line.Goals as goal
use Rattle.value_lines.proofs.lines.value_line.Goals.{After-end_of-end}

-- what stands before the line end is in the buffer
whole : (c : After-end_of-end) → Part (replicate 22 10) 0 (signed c.args.x) 21 c.signed.new.out c.end_of-end.result
whole c =
    let x = c.args.x in
    let d = owed_put (signed (to_z w64 (of_z w64 x))) 0 (replicate 22 10) _ _ _ (c.signed.ensures.answer, c.signed.ensures.written) c.end_of-end.ensures in
    (rw (to_z-of_z w64 x c.ranges.x) at d, signed_length_le x c.ranges.x)

-- there is room for the line end
ends : (c : After-end_of-end) → c.end_of-end.result < 22
ends c = ended_lt 22 _ (signed c.args.x) _ 21 (whole c) (omega arith)

pub overflow_add-line : goal.overflow_add-line
overflow_add-line c = record { fits = omega (arith, ends (goal.at.overflow_add-line c).After-end_of-end) }

pub slice_bounds-line-end : goal.slice_bounds-line-end
slice_bounds-line-end c = omega (arith, ends (goal.at.slice_bounds-line-end c).After-end_of-end, c.signed.auto.out)

pub slice_bounds-place-end : goal.slice_bounds-place-end
slice_bounds-place-end c = simp length-take (omega (arith, ends (goal.at.slice_bounds-place-end c).After-end_of-end, c.signed.auto.out))

pub returns : goal.returns
unfolding value_line
returns c =
    let w = whole (goal.at.returns c).After-end_of-end in
    let a = c.args in
    let o = ended_owes 22 _ (signed a.x) _ 21 w (omega arith) a.out.now _ a.at _ (c.place.ensures.answer, c.place.ensures.written) in
    record { answer = o.0; written = o.1; bound = ended_le 22 _ (signed a.x) _ 21 w (omega arith) }
