-- Bits carried in one number: a bit is a shift, a part of them a shift and a remainder, and bits are gathered into a number one by one or several at once.
-- Assumes nothing.
use mathlib.Core.Path.{◌≡◌, sym, ap, ◌∙◌}
use mathlib.Core.Bool.{Bool, false}
use mathlib.Core.List.{List}
use Prim.Native.Nat.{ℕ, suc, ◌+◌, ◌*◌, ◌-◌, ◌/◌, ◌%◌, ◌^◌, ◌≤◌, ◌<◌}
use native.Mathlib.Nat.{zero-add, lt_of_lt_of_le}
use native.Mathlib.Omega.{arith}
use lib.ListN.{get_or, take}
use lib.Pow.{pow_mono}
use Rattle.bits.specs.Bits.{bit_num, value, bits, cut, carried}
use Rattle.bits.proofs.Cut.{cut_length, cut_at, cut_append, cut_part}
use Rattle.bits.proofs.Value.{value_bound, value_join}
use Rattle.bits.proofs.Digits.{value_bits_mod, bits_value, bits_at, bit_is, take_bits, drop_bits, bits_length}

-- bit j of n is a shift and a remainder
pub carried_bit : (n number j : ℕ) → j < n → number / 2 ^ (n - suc j) % 2 ≡ bit_num (carried n number j)
carried_bit n number j h = sym (ap bit_num (bits_at n j number h) ∙ bit_is (n - suc j) number)

-- k bits from a on are a shift and a remainder
pub carried_part : (a k c number : ℕ) → value (cut (carried (a + (k + c)) number) a k) ≡ number / 2 ^ c % 2 ^ k
carried_part a k c number =
    ap value (cut_part false (bits (a + (k + c)) number) a k (omega (arith, bits_length (a + (k + c)) number)) ∙ ap (take k) (drop_bits a (k + c) number)
    ∙ take_bits k c number)
    ∙ value_bits_mod k (number / 2 ^ c)

-- n places from a on, and the m after them: the first number moves up by m
pub value_more : (h : ℕ → Bool) (a n m x y : ℕ) → x ≡ value (cut h a n) → y ≡ value (cut h (a + n) m) → x * 2 ^ m + y ≡ value (cut h a (n + m))
value_more h a n m x y e f =
    sym (ap value (cut_append h a n m) ∙ value_join (cut h a n) (cut h (a + n) m) m x y (cut_length h (a + n) m) (sym e) (sym f))

-- one place more
pub bit_more : (h : ℕ → Bool) (a n x b : ℕ) → x ≡ value (cut h a n) → b ≡ bit_num (h (a + n)) → x * 2 + b ≡ value (cut h a (n + 1))
bit_more h a n x b e f = value_more h a n 1 x b e (omega arith)

-- at most m places stay below 2 ^ m
pub cut_value_lt : (h : ℕ → Bool) (a n m x : ℕ) → n ≤ m → x ≡ value (cut h a n) → x < 2 ^ m
cut_value_lt h a n m x l e = lt_of_lt_of_le (value_bound n (cut h a n) x (cut_length h a n) e) (pow_mono l)

-- a number made of n bits has those bits
pub carried_back : (n : ℕ) (g : ℕ → Bool) (w j : ℕ) → w ≡ value (cut g 0 n) → j < n → carried n w j ≡ g j
carried_back n g w j e h =
    ap (λ (x : ℕ). carried n x j) e
    ∙ ap (λ (l : List Bool). get_or l j false) (bits_value n (cut g 0 n) (cut_length g 0 n))
    ∙ cut_at false g 0 n j h
    ∙ ap g (zero-add j)
