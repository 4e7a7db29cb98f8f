-- `from_session::messages::read_file` meets its contract: the frames are copied, and the answer after them says what is told. Assumes nothing.
use mathlib.Core.Path.{sym, ap, ◌∙◌}
use mathlib.Core.List.{[]}
use Rattle.refusal.specs.Refusals.{number_of}
use Rattle.text.proofs.Puts.{front_is}
use Rattle.from_session.specs.Output.{refusal_line, message_of}
use Rattle.from_session.proofs.Answers.{told_owes}
use Rattle.from_session.proofs.messages.read_file.Goals as goal

pub returns-in-Ok : goal.returns-in-Ok
returns-in-Ok c =
    let a = c.args in
    let copied = c.copy_frames-copied.ensures in
    told_owes a.input.now a.size c.requires.input_len.0 a.out.now _ _ _ (copied.answer, (copied.end, copied.frames)) [] (ap message_of (sym c.in-Ok.is))

pub returns-in-Err : goal.returns-in-Err
returns-in-Err c =
    let a = c.args in
    let copied = c.copy_frames-copied.ensures in
    let r = c.in-Err.refused in
    let told = front_is a.message.now _ _ (refusal_line (number_of r.refusal) r.line) c.write_message-end.ensures in
    told_owes a.input.now a.size c.requires.input_len.0 a.out.now _ _ _ (copied.answer, (copied.end, copied.frames)) _ (told ∙ ap message_of (sym c.in-Err.is))
