-- Digits and the bytes that write them: the reader's value of the bytes is the digits weighed by their places. Assumes nothing.
use mathlib.Core.Path.{◌≡◌, refl}
use mathlib.Core.Bool.{true}
use mathlib.Core.List.{List, [], ◌∷◌, map}
use Prim.Native.Nat.{ℕ, ◌+◌, ◌-◌, ◌*◌, ◌^◌, ◌≤◌}
use native.Mathlib.Nat.{add-mul, mul_assoc, pow-suc, pow-zero, mul-one}
use native.Mathlib.Omega.{arith}
use lib.Dec.{leb}
use lib.ListN.{length, length-map}
use borrow.Author.Tests.{leb-true, le-leb}
use Rattle.codebook_text.specs.Text.{is_digit, all_digits, value_after, digits_value}
use Rattle.bits.specs.Lists.{Every}
use Rattle.bits.specs.Ascii.{digit_byte}
use Rattle.codebook_text.specs.Grammar.{decimal_value}
use Rattle.codebook_text.proofs.Digits.{both}

-- the digit of a byte
abbrev pub digit_of : ℕ → ℕ
digit_of c = c - 48

-- a byte that is a digit, in numbers
byte_range : (c : ℕ) → is_digit c ≡ true → (48 ≤ c) × (c ≤ 57)
byte_range c e = let p = both (leb 48 c) (leb c 57) e in (leb-true 48 c p.0, leb-true c 57 p.1)

-- digits taken from bytes are written by these bytes
pub digits_back : (cs : List ℕ) → all_digits cs ≡ true → map digit_byte (map digit_of cs) ≡ cs
unfolding all_digits
digits_back [] e = refl
digits_back (c ∷ cs) e =
    let p = both (is_digit c) (all_digits cs) e in
    let q = byte_range c p.0 in
    let h : 48 + (c - 48) ≡ c = omega arith in
    cc (digits_back cs p.1)

-- digits taken from bytes are at most 9
pub digits_small : (cs : List ℕ) → all_digits cs ≡ true → Every (λ d. d ≤ 9) (map digit_of cs)
unfolding all_digits
digits_small [] e = tt
digits_small (c ∷ cs) e =
    let p = both (is_digit c) (all_digits cs) e in
    let q = byte_range c p.0 in
    (omega arith, digits_small cs p.1)

-- the bytes of digits are digits to a reader
pub digits_spelt : (ds : List ℕ) → Every (λ d. d ≤ 9) ds → all_digits (map digit_byte ds) ≡ true
unfolding all_digits
digits_spelt [] e = refl
digits_spelt (d ∷ ds) (h, e) = rw (le-leb 48 (48 + d) (omega arith), le-leb (48 + d) 57 (omega arith)) (digits_spelt ds e)

-- and they do not end a line
pub digits_line_lem : (ds : List ℕ) → Every (λ c. 11 ≤ c) (map digit_byte ds)
digits_line_lem [] = tt
digits_line_lem (d ∷ ds) = (omega arith, digits_line_lem ds)

-- a digit before others weighs the power of ten of their number
weighed : (v d p : ℕ) → (10 * v + (48 + d - 48)) * p ≡ v * (p * 10) + d * p
weighed v d p =
    let s : 48 + d - 48 ≡ d = omega arith in
    rw s (omega (arith, add-mul (10 * v) d p, mul_assoc 10 v p, mul_assoc v p 10))

-- the value of bytes after those of value v
value_spelt : (v : ℕ) (ds : List ℕ) → value_after v (map digit_byte ds) ≡ v * 10 ^ length ds + decimal_value ds
unfolding value_after decimal_value
value_spelt v [] = rw (pow-zero, mul-one) (omega arith)
value_spelt v (d ∷ ds) =
    let p = 10 ^ length ds in
    let i = value_spelt (10 * v + (48 + d - 48)) ds in
    let w = weighed v d p in
    let s : 10 ^ length (d ∷ ds) ≡ p * 10 = pow-suc 10 (length ds) in
    rw s (omega arith)

-- the reader's value of written digits is their own
pub digits_value_spelt : (ds : List ℕ) → digits_value (map digit_byte ds) ≡ decimal_value ds
digits_value_spelt ds = omega (arith, value_spelt 0 ds)

-- a list's digits are as many as its bytes
pub spelt_length : (ds : List ℕ) → length (map digit_byte ds) ≡ length ds
spelt_length ds = length-map ds digit_byte
