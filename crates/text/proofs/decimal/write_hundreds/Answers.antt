-- `text::decimal::write_hundreds` meets its contract: two digits after one or two. Assumes nothing.
use native.Mathlib.Omega.{arith}
use Rattle.text.proofs.Pairs.{decimal_length_more, decimal_put, pair_is, pair_length}
use Rattle.text.proofs.decimal.write_hundreds.Goals as goal

pub write_small-end-requires : goal.write_small-end-requires
write_small-end-requires c = (omega arith, omega (arith, decimal_length_more c.args.n c.requires.0))

pub write_pair-requires : goal.write_pair-requires
write_pair-requires c = omega (arith, decimal_length_more c.args.n c.requires.0)

pub returns-then-n-lt1000 : goal.returns-then-n-lt1000
returns-then-n-lt1000 c = decimal_put c.args.n c.args.out.now _ _ c.args.at _ _ c.requires.0 (omega arith) c.write_small-end.ensures c.write_pair.ensures

pub write_pair-end-requires : goal.write_pair-end-requires
write_pair-end-requires c = omega (arith, decimal_length_more c.args.n c.requires.0, pair_length c.args.n (omega arith) (omega arith))

pub write_pair-requires-2 : goal.write_pair-requires-2
write_pair-requires-2 c = omega (arith, decimal_length_more c.args.n c.requires.0, pair_length c.args.n (omega arith) (omega arith))

pub returns : goal.returns
returns c =
    decimal_put c.args.n c.args.out.now _ _ c.args.at _ _ c.requires.0 (omega arith) (rw (pair_is c.args.n (omega arith) (omega arith)) c.write_pair-end.ensures) c.write_pair-2.ensures
