-- Parts of the logical bits carried in one number: a part is a shift and a remainder.
-- Assumes nothing.
use mathlib.Core.Path.{◌≡◌, sym, ap, ◌∙◌}
use mathlib.Core.Bool.{Bool}
use Prim.Native.Nat.{ℕ, ◌+◌, ◌*◌, ◌/◌, ◌%◌, ◌^◌, ◌<◌}
use native.Mathlib.Nat.{mod-eq_of_lt, one-mul}
use lib.Pow.{pow-lt}
use Rattle.bits.specs.Bits.{value, bits, cut, carried}
use Rattle.bits.proofs.Cut.{cut_length}
use Rattle.bits.proofs.Digits.{bits_value}
use Rattle.bits.proofs.Numbers.{carried_part}

-- a one shifted up by less than 64 is a power of two
pub shift_power : (k : ℕ) → k < 64 → 1 * 2 ^ k % 2 ^ 64 ≡ 2 ^ k
shift_power k h = ap (λ (x : ℕ). x % 2 ^ 64) (one-mul (2 ^ k)) ∙ mod-eq_of_lt (pow-lt {i = k} {j = 64} h)

-- k bits from a on, with c below them
pub part_is : (a k c number : ℕ) → a + (k + c) ≡ 54 → number / 2 ^ c % 2 ^ k ≡ value (cut (carried 54 number) a k)
part_is a k c number e = sym (carried_part a k c number) ∙ ap (λ (n : ℕ). value (cut (carried n number) a k)) e

module _ (g : ℕ → Bool) where
  -- the bits of the number that a part stands for are that part
  pub bits_back : (a k x : ℕ) → x ≡ value (cut g a k) → bits k x ≡ cut g a k
  bits_back a k x e = ap (bits k) e ∙ bits_value k (cut g a k) (cut_length g a k)
