-- `vectors::vector::Vector::number` is safe, ends and meets its contract: so many bytes make a number below that power of 256. Assumes nothing.
use Rattle.std.proofs.Common.{◌≡◌, ℕ, ◌+◌, ◌*◌, ◌^◌, ◌<◌, ◌≤◌, pow-suc, add-one, sym, rules, arith}
use native.Mathlib.Nat.{pow-le-pow_right}
use Rattle.vectors.proofs.vector.Vector.number.Goals as goal

-- one byte more makes a number below the next power
more : (n k b : ℕ) → n < 256 ^ k → b < 256 → n * 256 + b < 256 ^ (k + 1)
more n k b h l =
    let e : 256 ^ (k + 1) ≡ 256 ^ k * 256 = rw add-one (pow-suc 256 k) in
    omega arith

-- eight of them fit
fits : (n k : ℕ) → n < 256 ^ k → k < 8 → n * 256 + 255 < 256 ^ 8
fits n k h l =
    let s : k + 1 ≤ 8 = omega arith in
    let p : 256 ^ (k + 1) ≤ 256 ^ 8 = pow-le-pow_right (omega arith) s in
    omega (arith, more n k 255 h (omega arith))

pub overflow_mul-n : goal.overflow_mul-n
overflow_mul-n c = omega (arith, fits _ _ c.loop-x.invariant.2 (omega arith))

pub overflow_add-n : goal.overflow_add-n
overflow_add-n c =
    let b : c.from.result < 256 = search rules in
    omega (arith, fits _ _ c.loop-x.invariant.2 (omega arith))

pub loop-x-preserved : goal.loop-x-preserved
loop-x-preserved c =
    let b : c.from.result < 256 = search rules in
    (c.loop-x.invariant.0, c.loop-x.invariant.1, more _ _ _ c.loop-x.invariant.2 b)

pub returns : goal.returns
returns c =
    let e : c.loop-x.x-index ≡ c.args.size = omega arith in
    rw (sym e) c.loop-x.invariant.2
