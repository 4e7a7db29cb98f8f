-- `text::bytes::place` meets its contract: the test tells whether there is room. Assumes nothing.
use Rattle.text.proofs.Answers.{short_owes, room_owes, test_short, test_room}
use Rattle.text.proofs.bytes.place.Goals as goal

pub returns-then-is_too_short : goal.returns-then-is_too_short
returns-then-is_too_short c =
    let p = short_owes _ _ _ (test_short _ _ _ _ c.is_too_short.ensures c.if-is_too_short.true) in
    record { answer = p.0; written = p.1 }

pub returns : goal.returns
returns c =
    let p = room_owes _ _ _ _ _ (test_room _ _ _ _ c.is_too_short.ensures c.if-is_too_short.false) c.append.ensures in
    record { answer = p.0; written = p.1 }
