-- `text::fields::number` meets its contract: where there is room for twenty digits there is room for the number. Assumes nothing.
use native.Mathlib.Omega.{arith}
use lib.ListN.{length-append}
use Rattle.text.specs.Text.{decimal}
use Rattle.text.proofs.Answers.{room_owes, test_room}
use Rattle.text.proofs.Decimals.{decimal_length}
use Rattle.text.proofs.Puts.{put_append}
use Rattle.text.proofs.fields.number.Goals as goal

pub write_decimal-requires : goal.write_decimal-requires
write_decimal-requires c =
    let room = test_room _ _ _ _ c.is_too_short.ensures c.if-is_too_short.false in
    omega (arith, room, decimal_length 19 c.args.n (omega arith), c.append-digits.ensures.0, c.append-digits.auto.out)

pub returns : goal.returns
returns c =
    let a = c.args in
    let t = c.front-text.result.now in
    let most = decimal_length 19 a.n (omega arith) in
    let room = test_room _ _ _ _ c.is_too_short.ensures c.if-is_too_short.false in
    let p = room_owes _ _ _ _ _ (omega (arith, room, most, length-append t (decimal a.n)))
    (put_append a.out.now _ _ a.at _ _ t (decimal a.n) (omega (arith, room, most)) c.append-digits.ensures c.write_decimal.ensures) in
    rw (← c.front-text.ensures) (record { answer = p.0; written = p.1 })
