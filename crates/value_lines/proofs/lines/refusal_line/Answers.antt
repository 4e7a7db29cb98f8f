-- `value_lines::lines::refusal_line` meets its contract: a name, a number and the line end after them, which are then put into the buffer whole. Assumes nothing.
use mathlib.Core.List.{List}
use Prim.Native.Nat.{ℕ, ◌<◌}
use native.Mathlib.Omega.{arith}
use lib.ListN.{length-take, replicate}
use Rattle.text.specs.Text.{ascii, decimal, field}
use Rattle.text.proofs.Answers.{owed_put}
use Rattle.text.proofs.Decimals.{decimal_length}
use Rattle.text.proofs.Parts.{Part, field_le, ended_lt, ended_le, ended_owes}
use Rattle.value_lines.specs.Lines.{refusal_line}
use Rattle.value_lines.proofs.lines.refusal_line.Goals as goal
use Rattle.value_lines.proofs.lines.refusal_line.Goals.{After-end_of-end}

-- what stands before the line end, and that it is in the buffer
abbrev text : ℕ → List ℕ
text n = field "refused=" (decimal n)

whole : (c : After-end_of-end) → Part (replicate 22 10) 0 (text c.args.n) 11 c.byte.new.out c.end_of-end.result
whole c =
    let n = c.args.n in (
      owed_put (text n) 0 (replicate 22 10) _ _ _ (c.byte.ensures.answer, c.byte.ensures.written) c.end_of-end.ensures,
      field_le (ascii "refused=") 8 (decimal n) 3 (decimal_length 2 n (omega arith)),
    )

-- there is room for the line end
ends : (c : After-end_of-end) → c.end_of-end.result < 22
ends c = ended_lt 22 _ (text c.args.n) _ 11 (whole c) (omega arith)

pub overflow_add-line : goal.overflow_add-line
overflow_add-line c = record { fits = omega (arith, ends (goal.at.overflow_add-line c).After-end_of-end) }

pub slice_bounds-line-end : goal.slice_bounds-line-end
slice_bounds-line-end c = omega (arith, ends (goal.at.slice_bounds-line-end c).After-end_of-end, c.byte.auto.out)

pub slice_bounds-place-end : goal.slice_bounds-place-end
slice_bounds-place-end c = simp length-take (omega (arith, ends (goal.at.slice_bounds-place-end c).After-end_of-end, c.byte.auto.out))

pub returns : goal.returns
unfolding refusal_line
returns c =
    let w = whole (goal.at.returns c).After-end_of-end in
    let a = c.args in
    let o = ended_owes 22 _ (text a.n) _ 11 w (omega arith) a.out.now _ a.at _ (c.place.ensures.answer, c.place.ensures.written) in
    record { answer = o.0; written = o.1; bound = ended_le 22 _ (text a.n) _ 11 w (omega arith) }
