-- Bits of numbers under the operations that work bit by bit, and under shifts.
-- Assumes nothing.
use mathlib.Core.Path.{◌≡◌, refl, sym, ap, ap₂, ◌∙◌}
use mathlib.Core.Bool.{Bool, false, ◌&&◌, ◌||◌}
use Prim.Native.Nat.{ℕ, zero, suc, ◌+◌, ◌*◌, ◌-◌, ◌/◌, ◌%◌, ◌^◌, ◌≤◌, ◌<◌, min, max}
use native.Mathlib.Nat.{mod-lt, zero-div}
use native.Mathlib.Omega.{arith}
use lib.Arith.{digits_div, digits_mod}
use lib.Bits.{bit_and, bit_or, and_step, or_step}
use lib.Dec.{eqb, lit<}
use lib.ListN.{get_or}
use lib.Pow.{shr-shr, shl-shr}
use Rattle.bits.specs.Bits.{bit}
use Rattle.bits.proofs.Digits.{bits_at, bits_mod}

-- no bit of 0 is set
pub zero_bit : (k : ℕ) → bit k 0 ≡ false
zero_bit k = ap (λ (x : ℕ). eqb (x % 2) 1) (zero-div (2 ^ k))

-- a higher bit is a bit of the half
bit_suc : (k n : ℕ) → bit (suc k) n ≡ bit k (n / 2)
bit_suc k n = ap (λ (x : ℕ). eqb (x % 2) 1) (ap (λ (m : ℕ). n / 2 ^ m) (omega arith) ∙ sym (shr-shr n 1 k))

bit_zero : (n : ℕ) → bit 0 n ≡ eqb (n % 2) 1
bit_zero n = let e : n / 2 ^ 0 ≡ n = omega arith in ap (λ (x : ℕ). eqb (x % 2) 1) e

-- an operation that works digit by digit works bit by bit
module _ (op f : ℕ → ℕ → ℕ) (g : Bool → Bool → Bool) (step : (a b : ℕ) → op a b ≡ op (a / 2) (b / 2) * 2 + f (a % 2) (b % 2))
    (small : (x y : ℕ) → x < 2 → y < 2 → f x y < 2) (says : (x y : ℕ) → x < 2 → y < 2 → eqb (f x y) 1 ≡ g (eqb x 1) (eqb y 1)) where
  bit_op : (k a b : ℕ) → bit k (op a b) ≡ g (bit k a) (bit k b)
  bit_op zero a b =
      bit_zero (op a b)
      ∙ ap (λ (x : ℕ). eqb (x % 2) 1) (step a b)
      ∙ ap (λ (x : ℕ). eqb x 1) (digits_mod (op (a / 2) (b / 2)) (small (a % 2) (b % 2) (mod-lt a (lit< tt)) (mod-lt b (lit< tt))))
      ∙ says (a % 2) (b % 2) (mod-lt a (lit< tt)) (mod-lt b (lit< tt))
      ∙ sym (ap₂ g (bit_zero a) (bit_zero b))
  bit_op (suc k) a b =
      bit_suc k (op a b)
      ∙ ap (bit k) (ap (λ (x : ℕ). x / 2) (step a b) ∙ digits_div (op (a / 2) (b / 2)) (small (a % 2) (b % 2) (mod-lt a (lit< tt)) (mod-lt b (lit< tt))))
      ∙ bit_op k (a / 2) (b / 2)
      ∙ sym (ap₂ g (bit_suc k a) (bit_suc k b))

-- on single digits the smaller is their conjunction, the larger their disjunction
min_says : (x y : ℕ) → x < 2 → y < 2 → eqb (min x y) 1 ≡ (eqb x 1 && eqb y 1)
min_says zero zero h k = refl
min_says zero (suc zero) h k = refl
min_says zero (suc (suc y)) h k = absurd (omega arith)
min_says (suc zero) zero h k = refl
min_says (suc zero) (suc zero) h k = refl
min_says (suc zero) (suc (suc y)) h k = absurd (omega arith)
min_says (suc (suc x)) y h k = absurd (omega arith)

max_says : (x y : ℕ) → x < 2 → y < 2 → eqb (max x y) 1 ≡ (eqb x 1 || eqb y 1)
max_says zero zero h k = refl
max_says zero (suc zero) h k = refl
max_says zero (suc (suc y)) h k = absurd (omega arith)
max_says (suc zero) zero h k = refl
max_says (suc zero) (suc zero) h k = refl
max_says (suc zero) (suc (suc y)) h k = absurd (omega arith)
max_says (suc (suc x)) y h k = absurd (omega arith)

-- bit by bit
pub bit_of_and : (k a b : ℕ) → bit k (bit_and a b) ≡ (bit k a && bit k b)
bit_of_and = bit_op bit_and min ◌&&◌ and_step (λ x y h k. omega arith) min_says

pub bit_of_or : (k a b : ℕ) → bit k (bit_or a b) ≡ (bit k a || bit k b)
bit_of_or = bit_op bit_or max ◌||◌ or_step (λ x y h k. omega arith) max_says

-- a shift down
pub bit_down : (k s p : ℕ) → bit k (p / 2 ^ s) ≡ bit (s + k) p
bit_down k s p = ap (λ (x : ℕ). eqb (x % 2) 1) (shr-shr p s k)

-- a remainder keeps the low bits
bit_mod : (k w n : ℕ) → k < w → bit k (n % 2 ^ w) ≡ bit k n
bit_mod k w n h =
    let j : ℕ = w - suc k in
    let l : j < w = omega arith in
    let e : w - suc j ≡ k = omega arith in
    ap (λ (i : ℕ). bit i (n % 2 ^ w)) (sym e)
    ∙ sym (bits_at w j (n % 2 ^ w) l)
    ∙ ap (λ x. get_or x j false) (bits_mod w n)
    ∙ bits_at w j n l
    ∙ ap (λ (i : ℕ). bit i n) e

-- a shift up in a number of w bits
pub bit_up : (w k s p : ℕ) → k < w → s ≤ k → bit k (p * 2 ^ s % 2 ^ w) ≡ bit (k - s) p
bit_up w k s p h l =
    let e : k ≡ s + (k - s) = omega arith in
    bit_mod k w (p * 2 ^ s) h
    ∙ ap (λ (i : ℕ). bit i (p * 2 ^ s)) e
    ∙ ap (λ (x : ℕ). eqb (x % 2) 1) (sym (shr-shr (p * 2 ^ s) s (k - s)) ∙ ap (λ (x : ℕ). x / 2 ^ (k - s)) (shl-shr p s))
