-- `hamming::repair::flipped` meets its contract: the shifted one is the weight of the bit, which fits eight bits. Assumes nothing.
use mathlib.Core.Path.{◌≡◌, ap, ◌∙◌}
use Prim.Native.Nat.{ℕ, ◌-◌, ◌*◌, ◌%◌, ◌^◌, ◌<◌}
use native.Mathlib.Nat.{mod-eq_of_lt, one-mul}
use native.Mathlib.Omega.{arith}
use lib.Bits.{bit_xor}
use lib.Pow.{pow-lt}
use Rattle.hamming.specs.Word.{length_of}
use Rattle.hamming.proofs.Lengths.{length_least, length_most}
use Rattle.hamming.proofs.Sums.{flip_is}
use Rattle.hamming.proofs.repair.flipped.Goals as goal

-- the weight of a bit of at most eight
weight : (k : ℕ) → k < 8 → 1 * 2 ^ k % 256 ≡ 2 ^ k
weight k h = ap (λ (x : ℕ). x % 256) (one-mul (2 ^ k)) ∙ mod-eq_of_lt (pow-lt {i = k} {j = 8} h)

pub returns : goal.returns
returns c =
    let a = c.args in
    let n = length_of a.length in
    let most = length_most a.length in
    let h : n - 1 - a.k < 8 = omega arith in
    rw c.bits.ensures (rw c.from.ensures (ap (bit_xor a.word) (weight (n - 1 - a.k) h) ∙ flip_is n a.k a.word (length_least a.length) most c.requires.0 c.requires.1))
