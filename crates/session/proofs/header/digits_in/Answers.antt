-- `session::header::digits_in` meets its contract: one to four digits. Assumes nothing.
use mathlib.Core.Path.{sym, ap}
use Prim.Native.Nat.{◌/◌}
use native.Mathlib.Omega.{arith}
use lib.ListN.{length}
use Rattle.text.proofs.Decimals.{decimal_one, decimal_two}
use Rattle.text.proofs.Pairs.{decimal_length_more, pair_length}
use Rattle.session.proofs.header.digits_in.Goals as goal

pub returns-in-0-to-9 : goal.returns-in-0-to-9
returns-in-0-to-9 c = sym (ap length (decimal_one c.args.n (omega arith)))

pub returns-in-10-to-99 : goal.returns-in-10-to-99
returns-in-10-to-99 c = sym (ap length (decimal_two c.args.n (omega arith) (omega arith)))

pub returns-in-100-to-999 : goal.returns-in-100-to-999
returns-in-100-to-999 c =
    let n = c.args.n in
    omega (arith, decimal_length_more n (omega arith), ap length (decimal_one (n / 100) (omega arith)))

pub returns-in_default : goal.returns-in_default
returns-in_default c =
    let n = c.args.n in
    omega (arith, decimal_length_more n (omega arith), pair_length n (omega arith) (omega arith))
