-- `from_session::messages::write_message` meets its contract: its parts are put one after the other. Assumes nothing.
use mathlib.Core.List.{◌++◌}
use Prim.Native.Nat.{◌≤◌}
use native.Mathlib.Omega.{arith}
use lib.ListN.{length, length-append}
use Rattle.text.specs.Text.{ascii, decimal, field}
use Rattle.text.proofs.Decimals.{decimal_length}
use Rattle.text.proofs.Answers.{owed_put}
use Rattle.text.proofs.Puts.{put_if_room_append}
use Rattle.from_session.specs.Output.{refusal_line}
use Rattle.from_session.proofs.messages.write_message.Goals as goal

pub returns : goal.returns
unfolding refusal_line
returns c =
    let out = c.args.out.now in
    let n = c.number in
    let number = field "refused=" (decimal n.result) in
    let line = field " line=" (decimal c.args.refused.line) in
    let p = owed_put number 0 out _ _ _ (c.byte.ensures.answer, c.byte.ensures.written) c.end_of-numbered.ensures in
    let q = owed_put line _ _ _ _ _ (rw c.from.ensures at c.number-2.ensures.answer, rw c.from.ensures at c.number-2.ensures.written) c.end_of-end.ensures in
    let r = owed_put (ascii "\n") _ _ _ _ _ (c.place.ensures.answer, c.place.ensures.written) c.end_of.ensures in
    let short : length (number ++ (line ++ ascii "\n")) ≤ 23 =
    omega (
      arith,
      length-append number (line ++ ascii "\n"),
      length-append line (ascii "\n"),
      decimal_length 2 n.result (omega (arith, n.type_inv)),
      decimal_length 4 c.args.refused.line (omega arith),
    ) in
    rw (← n.ensures) (put_if_room_append out _ _ 0 _ _ number (line ++ ascii "\n") p (put_if_room_append _ _ _ _ _ _ line (ascii "\n") q r) (omega (arith, short, c.requires)))
