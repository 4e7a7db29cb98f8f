-- The bits of a number, over any length: they stand for it, and parts of them for its quotients and remainders.
-- Assumes nothing.
use mathlib.Core.Path.{◌≡◌, refl, sym, ap, ap₂, ◌∙◌}
use mathlib.Core.Bool.{Bool, false}
use mathlib.Core.List.{List, ◌∷◌}
use Prim.Native.Nat.{ℕ, zero, suc, ◌+◌, ◌*◌, ◌-◌, ◌/◌, ◌%◌, ◌^◌, ◌<◌}
use native.Mathlib.Nat.{zero-add, suc-add, add_comm, mod-lt, mod-eq_of_lt, le_of_suc-le-suc, not-suc-le-zero}
use native.Mathlib.Omega.{arith}
use lib.Dec.{eqb, lit<}
use lib.ListN.{length, get_or, take, drop}
use lib.Pow.{pow_pos, mod-pow-add, shr-shr}
use Rattle.bits.specs.Bits.{bit_num, value, bit, bits}
use Rattle.bits.proofs.Value.{value_lt_at, value_inj}

-- how many bits a number is cut into
pub bits_length : (k n : ℕ) → length (bits k n) ≡ k
bits_length zero n = refl
bits_length (suc k) n = ap suc (bits_length k n)

-- a bit's number is read back
bit_num_lem : (n : ℕ) → bit_num (eqb (n % 2) 1) ≡ n % 2
bit_num_lem n = go (n % 2) (mod-lt n (lit< tt))
  where
    go : (m : ℕ) → m < 2 → bit_num (eqb m 1) ≡ m
    go zero h = refl
    go (suc zero) h = refl
    go (suc (suc m)) h = absurd (omega arith)

-- the bits of a number stand for its remainder
pub value_bits_mod : (k n : ℕ) → value (bits k n) ≡ n % 2 ^ k
value_bits_mod zero n = omega arith
value_bits_mod (suc k) n =
    let e : suc k ≡ 1 + k = omega arith in
    ap₂ (λ (x y : ℕ). x * 2 ^ length (bits k n) + y) (bit_num_lem (n / 2 ^ k)) (value_bits_mod k n)
    ∙ ap (λ (m : ℕ). n / 2 ^ k % 2 * 2 ^ m + n % 2 ^ k) (bits_length k n)
    ∙ sym (mod-pow-add n 1 k)
    ∙ ap (λ (m : ℕ). n % 2 ^ m) (sym e)

-- a number of k bits comes back from its bits
pub value_bits : (k n : ℕ) → n < 2 ^ k → value (bits k n) ≡ n
value_bits k n h = value_bits_mod k n ∙ mod-eq_of_lt h

-- bits come back from their number
pub bits_value : (n : ℕ) (l : List Bool) → length l ≡ n → bits n (value l) ≡ l
bits_value n l e = value_inj (bits n (value l)) l (bits_length n (value l) ∙ sym e) (value_bits n (value l) (value_lt_at n l e))

-- entry j of a number's n bits is its bit n - 1 - j
pub bits_at : (n j w : ℕ) → j < n → get_or (bits n w) j false ≡ bit (n - suc j) w
bits_at zero j w h = absurd (not-suc-le-zero h)
bits_at (suc n) zero w h = ap (λ (k : ℕ). bit k w) (omega arith)
bits_at (suc n) (suc j) w h = bits_at n j w (le_of_suc-le-suc h) ∙ ap (λ (k : ℕ). bit k w) (omega arith)

-- a bit of a number, as the number that a shift and a remainder give
pub bit_is : (k w : ℕ) → bit_num (bit k w) ≡ w / 2 ^ k % 2
bit_is k w = bit_num_lem (w / 2 ^ k)

-- the first a of a number's bits are those of its quotient
pub take_bits : (a b n : ℕ) → take a (bits (a + b) n) ≡ bits a (n / 2 ^ b)
take_bits zero b n = refl
take_bits (suc a) b n =
    ap (λ (k : ℕ). take (suc a) (bits k n)) (suc-add a b)
    ∙ ap₂ (λ (x : ℕ) (xs : List Bool). eqb (x % 2) 1 ∷ xs) (ap (λ (k : ℕ). n / 2 ^ k) (add_comm a b) ∙ sym (shr-shr n b a)) (take_bits a b n)

-- the others are those of the number itself
pub drop_bits : (a b n : ℕ) → drop a (bits (a + b) n) ≡ bits b n
drop_bits zero b n = ap (λ (k : ℕ). bits k n) (zero-add b)
drop_bits (suc a) b n = ap (λ (k : ℕ). drop (suc a) (bits k n)) (suc-add a b) ∙ drop_bits a b n

-- they do not see what stands above them
pub bits_mod : (k n : ℕ) → bits k (n % 2 ^ k) ≡ bits k n
bits_mod k n = value_inj _ _ (bits_length k _ ∙ sym (bits_length k n)) (value_bits k (n % 2 ^ k) (mod-lt n (pow_pos k)) ∙ sym (value_bits_mod k n))
