-- `text::decimal::write_pair` meets its contract: the low byte is the first digit, the high byte the second. Assumes nothing.
use mathlib.Core.Path.{◌≡◌, ◌∙◌}
use mathlib.Core.List.{[], ◌∷◌}
use Prim.Native.Nat.{ℕ, ◌+◌, ◌*◌, ◌/◌, ◌%◌}
use native.Mathlib.Omega.{arith}
use lib.ListN.{length-set}
use Rattle.bits.specs.Ascii.{digit_byte}
use Rattle.text.specs.Placing.{written}
use Rattle.text.proofs.Puts.{pair_put}
use Rattle.text.proofs.decimal.write_pair.Goals as goal

-- both digits as one number
abbrev both : ℕ → ℕ
both n = 48 + n % 100 / 10 + 256 * (48 + n % 100 % 10)

pub overflow_cast-out : goal.overflow_cast-out
overflow_cast-out c = record { fits = omega arith }

pub overflow_cast-out-2 : goal.overflow_cast-out-2
overflow_cast-out-2 c = record { fits = omega arith }

pub bounds-out-at-2 : goal.bounds-out-at-2
bounds-out-at-2 c =
    let a = c.args in
    omega (arith, length-set a.out.now a.at (both a.n % 256))

pub returns : goal.returns
returns c =
    let a = c.args in
    let first : both a.n % 256 ≡ digit_byte (a.n % 100 / 10) = omega arith in
    let second : both a.n / 256 ≡ digit_byte (a.n % 100 % 10) = omega arith in
    let p = pair_put a.out.now a.at (both a.n % 256) (both a.n / 256) (omega arith) in
    (p.0, p.1 ∙ (λ i. written (first i ∷ second i ∷ []) a.at a.out.now))
