-- `to_session::files::write_file` meets its contract: the writer's answer says where the file ends, or which number is told. Assumes nothing.
use mathlib.Core.Path.{ap, ◌∙◌}
use Prim.Native.Nat.{◌≤◌}
use native.Mathlib.Omega.{arith}
use lib.ListN.{take, length-take}
use Rattle.text.specs.Placing.{Appended}
use Rattle.text.proofs.Additions.{line_added}
use Rattle.value_lines.specs.Lines.{refusal_line}
use Rattle.to_session.proofs.Answers.{text_is, text_owes, refusal_owes}
use Rattle.to_session.proofs.files.write_file.Goals as goal
use Rattle.to_session.proofs.files.write_file.Goals.{After-end_of-end}

pub slice_bounds-result-end : goal.slice_bounds-result-end
slice_bounds-result-end c =
    let a = c.args in
    let q = text_is (take a.size a.input.now) a.file.now c.requires.file_len.0 _ _ (c.write.ensures.answer, c.write.ensures.written) _ c.in-Ok.is in
    simp length-take (omega (arith, q.0))

pub returns-in-Ok : goal.returns-in-Ok
returns-in-Ok c =
    let a = c.args in
    text_owes a.input.now a.size c.requires.input_len.0 a.file.now c.requires.file_len.0 _ _ (c.write.ensures.answer, c.write.ensures.written) _ c.in-Ok.is

-- the line of the refusal is added to nothing
told : (c : After-end_of-end) → Appended c.args.message.now 0 (refusal_line c.number.result) c.refusal_line.new.out c.end_of-end.result × (c.end_of-end.result ≤ 22)
told c =
    let l = c.refusal_line in
    line_added (refusal_line c.number.result) c.args.message.now _ 0 22 _ _ (l.ensures.answer, (l.ensures.written, l.ensures.bound)) c.end_of-end.ensures (omega (arith, c.requires.file_len.1))

pub slice_bounds-result-end-in-Err-2 : goal.slice_bounds-result-end-in-Err-2
slice_bounds-result-end-in-Err-2 c =
    let q = told (goal.at.slice_bounds-result-end-in-Err-2 c).After-end_of-end in
    simp length-take (omega (arith, q.1, c.refusal_line.auto.out, c.requires.file_len.1))

pub returns-in-Err : goal.returns-in-Err
returns-in-Err c input read =
    let a = c.args in
    let q = told (goal.at.returns-in-Err c).After-end_of-end in
    let o = refusal_owes a.input.now a.size c.requires.input_len.0 a.file.now c.requires.file_len.0 _ _ (c.write.ensures.answer, c.write.ensures.written) _ c.in-Err.is input read in
    (o.0, q.0.1 ∙ ap refusal_line c.number.ensures ∙ o.1)
