-- `text::fields::put_exactly` meets its contract: what stands at the front of the buffer is placed. Assumes nothing.
use native.Mathlib.Omega.{arith}
use lib.ListN.{replicate}
use Rattle.text.specs.Text.{decimal}
use Rattle.text.proofs.Decimals.{decimal_length}
use Rattle.text.proofs.Puts.{put_append, front_is}
use Rattle.text.proofs.fields.put_exactly.Goals as goal

pub write_decimal-end-requires : goal.write_decimal-end-requires
write_decimal-end-requires c = omega (arith, decimal_length 19 c.args.n (omega arith))

pub returns : goal.returns
returns c =
    let zeros = replicate 36 0 in
    let p = put_append zeros _ _ 0 _ _ c.args.name.now (decimal c.args.n) (omega arith) c.append-digits.ensures c.write_decimal-end.ensures in
    let e = front_is zeros _ _ _ p in
    record { answer = rw e at c.place.ensures.answer; written = rw e at c.place.ensures.written }
