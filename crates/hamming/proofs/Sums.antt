-- Sums modulo 2 as exclusive or of numbers, over any number of bits.
-- Assumes nothing.
use mathlib.Core.Path.{◌≡◌, refl, sym, ap, ap₂, ◌∙◌}
use mathlib.Core.Bool.{Bool, false}
use mathlib.Core.List.{List, [], ◌∷◌}
use Prim.Native.Nat.{ℕ, zero, suc, ◌-◌, ◌/◌, ◌%◌, ◌^◌, ◌≤◌, ◌<◌}
use native.Mathlib.Nat.{mod-lt}
use native.Mathlib.Omega.{arith}
use lib.Dec.{eqb, lit<}
use lib.Bits.{bit_xor, xor_lt, xor_shr, xor_mod}
use lib.ListN.{length, replicate}
use lib.Pow.{pow-lt}
use Rattle.bits.specs.Bits.{◌⊻◌, ◌⊕◌, value, bits, same}
use Rattle.bits.specs.Lists.{every}
use Rattle.bits.proofs.Tests.{every_at}
use Rattle.bits.proofs.Patterns.{same_eq}
use Rattle.bits.proofs.Digits.{bits_length, value_bits}
use Rattle.hamming.specs.Word.{flip_at}
use Rattle.hamming.proofs.Lengths.{lengths_at}

-- of numbers of one bit
xor_one : (x y : ℕ) → x < 2 → y < 2 → eqb (bit_xor x y) 1 ≡ (eqb x 1 ⊻ eqb y 1)
xor_one zero zero h k = refl
xor_one zero (suc zero) h k = refl
xor_one zero (suc (suc y)) h k = absurd (omega arith)
xor_one (suc zero) zero h k = refl
xor_one (suc zero) (suc zero) h k = refl
xor_one (suc zero) (suc (suc y)) h k = absurd (omega arith)
xor_one (suc (suc x)) y h k = absurd (omega arith)

-- the bits of an exclusive or
pub xor_bits : (k a b : ℕ) → bits k (bit_xor a b) ≡ bits k a ⊕ bits k b
xor_bits zero a b = refl
xor_bits (suc k) a b =
    let e : bit_xor a b / 2 ^ k % 2 ≡ bit_xor (a / 2 ^ k % 2) (b / 2 ^ k % 2) =
    ap (λ (x : ℕ). x % 2) (xor_shr a b k) ∙ xor_mod (a / 2 ^ k) (b / 2 ^ k) 1 in
    let bit = ap (λ (x : ℕ). eqb x 1) e ∙ xor_one (a / 2 ^ k % 2) (b / 2 ^ k % 2) (mod-lt (a / 2 ^ k) (lit< tt)) (mod-lt (b / 2 ^ k) (lit< tt)) in
    ap₂ (λ (x : Bool) (xs : List Bool). x ∷ xs) bit (xor_bits k a b)

-- a flip is a sum with the flip of a word of zeros
flip_sum : (k : ℕ) (l : List Bool) → flip_at k l ≡ l ⊕ flip_at k (replicate (length l) false)
flip_sum k [] = refl
flip_sum zero (b ∷ l) = ap₂ (λ (x : Bool) (xs : List Bool). x ∷ xs) refl (zeros l)
  where
    zeros : (l : List Bool) → l ≡ l ⊕ replicate (length l) false
    zeros [] = refl
    zeros (b ∷ l) = ap (λ (xs : List Bool). b ∷ xs) (zeros l)
flip_sum (suc k) (b ∷ l) = ap (λ (xs : List Bool). b ∷ xs) (flip_sum k l)

-- which are the bits of its weight
is_weight : ℕ → ℕ → Bool
is_weight n k = same (bits n (2 ^ (n - 1 - k))) (flip_at k (replicate n false))

weight_bits : (n k : ℕ) → 6 ≤ n → n ≤ 8 → k < n → bits n (2 ^ (n - 1 - k)) ≡ flip_at k (replicate n false)
unfolding is_weight
weight_bits n k l m h = same_eq _ _ (every_at n (is_weight n) (lengths_at (λ n. every n (is_weight n)) tt n l m) k h)

-- one bit flipped is an exclusive or with its weight
pub flip_is : (n k w : ℕ) → 6 ≤ n → n ≤ 8 → k < n → w < 2 ^ n → bit_xor w (2 ^ (n - 1 - k)) ≡ value (flip_at k (bits n w))
flip_is n k w l m hk hw =
    let weight : ℕ = 2 ^ (n - 1 - k) in
    let below : weight < 2 ^ n = pow-lt {i = n - 1 - k} {j = n} (omega arith) in
    let sum = xor_bits n w weight ∙ ap (λ (e : List Bool). bits n w ⊕ e) (weight_bits n k l m hk) in
    let flip = flip_sum k (bits n w) ∙ ap (λ (j : ℕ). bits n w ⊕ flip_at k (replicate j false)) (bits_length n w) in
    sym (value_bits n (bit_xor w weight) (xor_lt n w weight hw below)) ∙ ap value (sum ∙ sym flip)
