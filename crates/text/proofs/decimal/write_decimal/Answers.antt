-- `text::decimal::write_decimal` meets its contract: each case has its digits. Assumes nothing.
use native.Mathlib.Omega.{arith}
use Rattle.text.proofs.Pairs.{decimal_length_more, decimal_put}
use Rattle.text.proofs.decimal.write_decimal.Goals as goal

pub write_hundreds-end-requires : goal.write_hundreds-end-requires
write_hundreds-end-requires c = (omega arith, omega arith, omega (arith, decimal_length_more c.args.n (omega arith)))

pub write_pair-requires : goal.write_pair-requires
write_pair-requires c = omega (arith, decimal_length_more c.args.n (omega arith))

pub returns-then-n-lt1000000 : goal.returns-then-n-lt1000000
returns-then-n-lt1000000 c = decimal_put c.args.n c.args.out.now _ _ c.args.at _ _ (omega arith) (omega arith) c.write_hundreds-end.ensures c.write_pair.ensures
