-- A number and the digits that write it: their value is the number. Assumes nothing.
use mathlib.Core.Path.{◌≡◌, refl, ap, ◌∙◌}
use mathlib.Core.Bool.{Bool, true, false, cond}
use mathlib.Core.List.{List, [], ◌∷◌, ◌++◌, append_assoc}
use Prim.Native.Nat.{ℕ, zero, suc, ◌+◌, ◌-◌, ◌*◌, ◌/◌, ◌%◌, ◌≤◌, ◌<◌}
use native.Mathlib.Omega.{arith}
use lib.Dec.{ltb}
use lib.ListN.{length, take}
use lib.Seq.{take-append-add}
use borrow.Author.Tests.{ltb-true, ltb-false, le-leb}
use Rattle.bits.specs.Ascii.{digit_byte}
use Rattle.text.specs.Text.{digits, decimal}
use Rattle.text.proofs.Decimals.{decimal_length}
use Rattle.session_lines.specs.Lines.{digits_value}

-- one digit more
value_digit : (v d n : ℕ) (t : List ℕ) → d < 10 → 10 * v + d ≡ n → digits_value v (digit_byte d ∷ t) ≡ digits_value n t
unfolding digits_value
value_digit v d n t h e =
    let step : 10 * v + (48 + d - 48) ≡ n = omega arith in
    rw (le-leb 48 (48 + d) (omega arith), le-leb (48 + d) 57 (omega arith)) (ap (λ (m : ℕ). digits_value m t) step)

-- after the digits of a number the value is that number
value_digits : (k n : ℕ) (t : List ℕ) → n < k → digits_value 0 (digits k n ++ t) ≡ digits_value n t
unfolding digits
value_digits zero n t h = absurd (omega arith)
value_digits (suc k) n t h = go (ltb n 10) refl (λ m. value_digits k (n / 10) (digit_byte (n % 10) ∷ t) (omega arith))
  where
    go : (b : Bool) → ltb n 10 ≡ b → (10 ≤ n → digits_value 0 (digits k (n / 10) ++ (digit_byte (n % 10) ∷ t)) ≡ digits_value (n / 10) (digit_byte (n % 10) ∷ t))
        → digits_value 0 (cond b (digit_byte n ∷ []) (digits k (n / 10) ++ (digit_byte (n % 10) ∷ [])) ++ t) ≡ digits_value n t
    go true e f = value_digit 0 n n t (ltb-true n 10 e) (omega arith)
    go false e f =
        ap (digits_value 0) (append_assoc (digits k (n / 10)) (digit_byte (n % 10) ∷ []) t)
        ∙ f (ltb-false n 10 e)
        ∙ value_digit (n / 10) (n % 10) n t (omega arith) (omega arith)

-- a line end stops
value_end : (k v : ℕ) → digits_value v (take k (10 ∷ [])) ≡ v
unfolding digits_value
value_end zero v = refl
value_end (suc k) v = refl

-- four digits at most of a number below 10,000 and a line end have the number as their value
pub value_line_end : (n : ℕ) → n < 10000 → digits_value 0 (take 4 (decimal n ++ (10 ∷ []))) ≡ n
unfolding decimal
value_line_end n h =
    let k = 4 - length (decimal n) in
    let four : 4 ≡ length (decimal n) + k = omega (arith, decimal_length 3 n h) in
    ap (λ (m : ℕ). digits_value 0 (take m (decimal n ++ (10 ∷ [])))) four
    ∙ ap (digits_value 0) (take-append-add (decimal n) (10 ∷ []) k)
    ∙ value_digits (suc n) n (take k (10 ∷ [])) (omega arith)
    ∙ value_end k n
