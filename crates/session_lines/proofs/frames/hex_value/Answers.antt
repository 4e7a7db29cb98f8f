-- `session_lines::frames::hex_value` meets its contract. Assumes nothing.
use mathlib.Core.Path.{◌≡◌, sym, ap}
use mathlib.Core.Bool.{Bool, cond}
use Prim.Native.Nat.{◌+◌, ◌-◌}
use native.Mathlib.Omega.{arith}
use borrow.Author.Tests.{lt-ltb, le-ltb}
use Rattle.session_lines.specs.Lines.{hex_value}
use Rattle.session_lines.proofs.HexDigits.{hex_bounds, hex_value_le}
use Rattle.session_lines.proofs.frames.hex_value.Goals as goal

pub overflow_sub-result : goal.overflow_sub-result
overflow_sub-result c = let s = c in omega (arith, (hex_bounds s.args.c s.requires).0)

pub returns-then-c-lt97 : goal.returns-then-c-lt97
returns-then-c-lt97 c =
    let s = c in
    let x = s.args.c in
    let e : x - 48 ≡ hex_value x = sym (ap (λ (t : Bool). cond t (x - 48) (x - 87)) (lt-ltb x 97 c.if-c-lt97.true)) in
    record { equal = e; bound = rw e (hex_value_le x s.requires) }

pub returns-else-c-lt97 : goal.returns-else-c-lt97
returns-else-c-lt97 c =
    let s = c in
    let x = s.args.c in
    let d : x - 97 + 10 ≡ x - 87 = omega (arith, c.if-c-lt97.false) in
    let f : x - 87 ≡ hex_value x = sym (ap (λ (t : Bool). cond t (x - 48) (x - 87)) (le-ltb x 97 c.if-c-lt97.false)) in
    let e : x - 97 + 10 ≡ hex_value x = rw d f in
    record { equal = e; bound = rw e (hex_value_le x s.requires) }
