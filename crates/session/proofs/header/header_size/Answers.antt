-- `session::header::header_size` meets its contract: 30 bytes stand around the digits. Assumes nothing.
use native.Mathlib.Omega.{arith}
use Rattle.text.proofs.Decimals.{decimal_length}
use Rattle.session.proofs.Texts.{header_length}
use Rattle.session.proofs.header.header_size.Goals as goal

pub overflow_add-result : goal.overflow_add-result
overflow_add-result c = omega (arith, c.digits_in.ensures, decimal_length 3 c.args.n (omega arith))

pub returns : goal.returns
returns c = omega (arith, c.digits_in.ensures, header_length c.args.n)
