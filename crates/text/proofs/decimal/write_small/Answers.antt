-- `text::decimal::write_small` meets its contract: a number below ten has one digit, one below a hundred two. Assumes nothing.
use mathlib.Core.Path.{◌≡◌}
use Prim.Native.Nat.{◌+◌, ◌%◌}
use native.Mathlib.Omega.{arith}
use lib.ListN.{set}
use Rattle.bits.specs.Ascii.{digit_byte}
use Rattle.text.specs.Text.{decimal}
use Rattle.text.specs.Placing.{Put}
use Rattle.text.proofs.Decimals.{decimal_one, decimal_two}
use Rattle.text.proofs.Pairs.{pair}
use Rattle.text.proofs.Puts.{byte_put}
use Rattle.text.proofs.decimal.write_small.Goals as goal

pub overflow_cast-out : goal.overflow_cast-out
overflow_cast-out c = record { fits = omega arith }

pub bounds-out-at : goal.bounds-out-at
bounds-out-at c =
    let s = c in
    let p = rw (decimal_one s.args.n (omega arith)) at s.requires.1 in
    omega (arith, p)

pub write_pair-requires : goal.write_pair-requires
write_pair-requires c =
    let s = c in
    let p = rw (decimal_two s.args.n (omega arith) s.requires.0) at s.requires.1 in
    omega (arith, p)

pub returns-then-n-lt10 : goal.returns-then-n-lt10
returns-then-n-lt10 c =
    let a = c.args in
    let l = decimal_one a.n (omega arith) in
    let room = rw l at c.requires.1 in
    let p : Put a.out.now a.at (decimal a.n) (set a.out.now a.at (digit_byte a.n)) (a.at + 1) =
    rw l (byte_put a.out.now a.at (digit_byte a.n) (omega (arith, room))) in
    p

pub returns : goal.returns
returns c =
    let a = c.args in
    let e : a.n % 100 ≡ a.n = omega arith in
    let w : Put a.out.now a.at (pair (a.n % 100)) c.write_pair.new.out c.write_pair.result = c.write_pair.ensures in
    let v : Put a.out.now a.at (pair a.n) c.write_pair.new.out c.write_pair.result = rw e at w in
    let p : Put a.out.now a.at (decimal a.n) c.write_pair.new.out c.write_pair.result = rw (decimal_two a.n (omega arith) c.requires.0) v in
    p
