-- `text::decimal::write_long` meets its contract: the last two digits of a number stand after those of its hundreds. Assumes nothing.
use native.Mathlib.Omega.{arith}
use Rattle.text.proofs.Pairs.{decimal_length_more, decimal_put}
use Rattle.text.proofs.decimal.+write_long.Goals as goal

pub write_long-end-requires : goal.write_long-end-requires
write_long-end-requires t c = (omega (arith, c.decreases), (omega arith, omega (arith, decimal_length_more c.args.n (omega arith))))

pub write_pair-requires : goal.write_pair-requires
write_pair-requires t c = omega (arith, decimal_length_more c.args.n (omega arith))

pub returns : goal.returns
returns t c = decimal_put c.args.n c.args.out.now _ _ c.args.at _ _ (omega arith) (omega arith) c.write_long-end.ensures c.write_pair.ensures
