-- The number that the digits in front of a text write: digit by digit, its bounds, and that it ends with the line. Assumes nothing.
use mathlib.Core.Path.{◌≡◌, refl}
use mathlib.Core.Bool.{Bool, true, false, ◌&&◌, cond, and-eq-true_iff}
use mathlib.Core.List.{List, [], ◌∷◌}
use Prim.Native.Nat.{ℕ, zero, suc, ◌+◌, ◌-◌, ◌*◌, ◌^◌, ◌≤◌, ◌<◌}
use native.Mathlib.Nat.{mul-one, mul_assoc, mul-le-mul_left, pow-zero, pow-succ', one-le-pow}
use native.Mathlib.Omega.{arith}
use lib.Dec.{leb, eqb}
use lib.ListN.{take}
use borrow.Author.Tests.{leb-true, eqb-true}
use Rattle.session_lines.specs.Lines.{line_of, digits_value}

-- what holds for a digit and for any other byte holds for the test
pub digit_cases : (P : Bool → Type 0) (c : ℕ) → (48 ≤ c → c ≤ 57 → P true) → P false → P (leb 48 c && leb c 57)
digit_cases P c digit other = go (leb 48 c && leb c 57) refl
  where
    go : (t : Bool) → leb 48 c && leb c 57 ≡ t → P t
    go true e = let p = (and-eq-true_iff (leb 48 c) (leb c 57)).0 e in digit (leb-true 48 c p.0) (leb-true c 57 p.1)
    go false e = other

-- the value so far is no more than that of all digits
pub value_le : (v : ℕ) (t : List ℕ) → v ≤ digits_value v t
unfolding digits_value
value_le v [] = omega arith
value_le v (c ∷ cs) =
    let more = value_le (10 * v + (c - 48)) cs in
    digit_cases (λ t. v ≤ cond t (digits_value (10 * v + (c - 48)) cs) v) c (λ low high. omega (arith, more)) (omega arith)

-- k digits after a value below b write one below b times the power of ten
value_lt : (k b v : ℕ) (t : List ℕ) → v < b → digits_value v (take k t) < b * 10 ^ k
unfolding digits_value
value_lt zero b v t h = rw (pow-zero, mul-one) h
value_lt (suc k) b v [] h = omega (arith, mul-le-mul_left b (one-le-pow (suc k) 10 (omega arith)))
value_lt (suc k) b v (c ∷ cs) h =
    let next = 10 * v + (c - 48) in
    digit_cases (λ t. cond t (digits_value next (take k cs)) v < b * 10 ^ suc k) c
    (λ low high. rw (pow-succ', ← mul_assoc b 10 (10 ^ k)) (value_lt k (b * 10) next cs (omega arith)))
    (omega (arith, mul-le-mul_left b (one-le-pow (suc k) 10 (omega arith))))

-- four digits write a number below 10,000
pub value_fits : (t : List ℕ) → digits_value 0 (take 4 t) < 10000
value_fits t = value_lt 4 1 0 t (omega arith)

-- no digit stands past the end of a line
pub value_line_lem : (k v : ℕ) (t : List ℕ) → digits_value v (take k (line_of t)) ≡ digits_value v (take k t)
unfolding digits_value line_of
value_line_lem zero v t = refl
value_line_lem (suc k) v [] = refl
value_line_lem (suc k) v (c ∷ cs) = go (eqb c 10) refl (value_line_lem k (10 * v + (c - 48)) cs)
  where
    go : (t : Bool) → eqb c 10 ≡ t
        → digits_value (10 * v + (c - 48)) (take k (line_of cs)) ≡ digits_value (10 * v + (c - 48)) (take k cs)
        → digits_value v (take (suc k) (cond t (c ∷ []) (c ∷ line_of cs))) ≡ digits_value v (take (suc k) (c ∷ cs))
    go true e h = rw (eqb-true c 10 e) refl
    go false e h = rw h refl
