-- `session::header::write_header` meets its contract: its parts are put one after the other. Assumes nothing.
use mathlib.Core.List.{◌++◌}
use native.Mathlib.Omega.{arith}
use Rattle.text.specs.Text.{ascii, decimal}
use Rattle.text.specs.Placing.{PutIfRoom}
use Rattle.text.proofs.Answers.{owed_put}
use Rattle.text.proofs.Puts.{put_if_room_append}
use Rattle.session.specs.Format.{file_line, order_line, count_line, header}
use Rattle.session.proofs.header.write_header.Goals as goal
use Rattle.session.proofs.header.write_header.Goals.{After-end_of}

-- what the three calls put
whole : (c : After-end_of) → PutIfRoom c.args.out.now 0 (header c.args.n) c.place-2.new.out c.end_of.result
unfolding header count_line
whole c =
    let out = c.args.out.now in
    let lines = file_line ++ order_line in
    let count = ascii "frames=" ++ decimal c.args.n in
    let p = owed_put lines 0 out _ _ _ (c.place.ensures.answer, c.place.ensures.written) c.end_of-count.ensures in
    let q = owed_put count _ _ _ _ _ (c.number.ensures.answer, c.number.ensures.written) c.end_of-digits.ensures in
    let r = owed_put (ascii "\n") _ _ _ _ _ (c.place-2.ensures.answer, c.place-2.ensures.written) c.end_of.ensures in
    put_if_room_append out _ _ 0 _ _ (lines ++ count) (ascii "\n") (put_if_room_append out _ _ 0 _ _ lines count p q) r

pub returns : goal.returns
returns c = whole (goal.at.returns c).After-end_of (omega (arith, c.requires))
