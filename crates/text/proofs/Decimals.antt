-- A number's decimal digits, from the last one on and two at a time, and how many they are. Assumes nothing.
use mathlib.Core.Path.{◌≡◌, refl, ap, ◌∙◌}
use mathlib.Core.Bool.{Bool, true, false, cond}
use mathlib.Core.List.{List, [], ◌∷◌, ◌++◌, append_assoc}
use Prim.Native.Nat.{ℕ, zero, suc, ◌*◌, ◌/◌, ◌%◌, ◌^◌, ◌≤◌, ◌<◌}
use native.Mathlib.Nat.{pow-suc}
use native.Mathlib.Omega.{arith}
use lib.Dec.{ltb}
use lib.ListN.{length, length-append}
use borrow.Author.Tests.{lt-ltb, le-ltb, ltb-true, ltb-false}
use Rattle.bits.specs.Ascii.{digit_byte}
use Rattle.text.specs.Text.{digits, decimal}

-- a bound above the number changes nothing
digits_enough : (j k n : ℕ) → n < j → n < k → digits j n ≡ digits k n
unfolding digits
digits_enough zero k n h l = absurd (omega arith)
digits_enough (suc j) zero n h l = absurd (omega arith)
digits_enough (suc j) (suc k) n h l = go (ltb n 10) refl (λ m. digits_enough j k (n / 10) (omega arith) (omega arith))
  where
    go : (t : Bool) → ltb n 10 ≡ t → (10 ≤ n → digits j (n / 10) ≡ digits k (n / 10))
        → cond t (digit_byte n ∷ []) (digits j (n / 10) ++ (digit_byte (n % 10) ∷ [])) ≡ cond t (digit_byte n ∷ []) (digits k (n / 10) ++ (digit_byte (n % 10) ∷ []))
    go true e f = refl
    go false e f = ap (λ (l : List ℕ). l ++ (digit_byte (n % 10) ∷ [])) (f (ltb-false n 10 e))

-- one digit
pub decimal_one : (n : ℕ) → n < 10 → decimal n ≡ digit_byte n ∷ []
unfolding decimal digits
decimal_one n h = ap (λ (t : Bool). cond t (digit_byte n ∷ []) (digits n (n / 10) ++ (digit_byte (n % 10) ∷ []))) (lt-ltb n 10 h)

-- the last digit of more
pub decimal_more : (n : ℕ) → 10 ≤ n → decimal n ≡ decimal (n / 10) ++ (digit_byte (n % 10) ∷ [])
unfolding decimal digits
decimal_more n h =
    ap (λ (t : Bool). cond t (digit_byte n ∷ []) (digits n (n / 10) ++ (digit_byte (n % 10) ∷ []))) (le-ltb n 10 h)
    ∙ ap (λ (l : List ℕ). l ++ (digit_byte (n % 10) ∷ [])) (digits_enough n (suc (n / 10)) (n / 10) (omega arith) (omega arith))

-- two digits
pub decimal_two : (n : ℕ) → 10 ≤ n → n < 100 → decimal n ≡ digit_byte (n / 10) ∷ digit_byte (n % 10) ∷ []
decimal_two n h l = decimal_more n h ∙ ap (λ (d : List ℕ). d ++ (digit_byte (n % 10) ∷ [])) (decimal_one (n / 10) (omega arith))

-- the last two digits of more
pub decimal_pairs : (n : ℕ) → 100 ≤ n → decimal n ≡ decimal (n / 100) ++ (digit_byte (n % 100 / 10) ∷ digit_byte (n % 100 % 10) ∷ [])
decimal_pairs n h =
    let e : n / 10 / 10 ≡ n / 100 = omega arith in
    let tens : n / 10 % 10 ≡ n % 100 / 10 = omega arith in
    let ones : n % 10 ≡ n % 100 % 10 = omega arith in
    decimal_more n (omega arith)
    ∙ ap (λ (d : List ℕ). d ++ (digit_byte (n % 10) ∷ [])) (decimal_more (n / 10) (omega arith) ∙ ap (λ (k : ℕ). decimal k ++ (digit_byte (n / 10 % 10) ∷ [])) e)
    ∙ append_assoc (decimal (n / 100)) (digit_byte (n / 10 % 10) ∷ []) (digit_byte (n % 10) ∷ [])
    ∙ (λ i. decimal (n / 100) ++ (digit_byte (tens i) ∷ digit_byte (ones i) ∷ []))

-- a number below a power of ten has at most so many digits
pub decimal_length : (k n : ℕ) → n < 10 ^ suc k → length (decimal n) ≤ suc k
decimal_length zero n h = rw (decimal_one n h) (omega arith)
decimal_length (suc k) n h =
    let p : 10 ^ suc (suc k) ≡ 10 ^ suc k * 10 = pow-suc 10 (suc k) in
    go (ltb n 10) refl (decimal_length k (n / 10) (omega arith))
  where
    go : (t : Bool) → ltb n 10 ≡ t → length (decimal (n / 10)) ≤ suc k → length (decimal n) ≤ suc (suc k)
    go true e i = rw (decimal_one n (ltb-true n 10 e)) (omega arith)
    go false e i = rw (decimal_more n (ltb-false n 10 e), length-append (decimal (n / 10)) (digit_byte (n % 10) ∷ [])) (omega arith)
