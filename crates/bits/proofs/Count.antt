-- The count of ones, and the length after flips.
-- Assumes nothing.
use mathlib.Core.Path.{◌≡◌, refl, sym, ap, ◌∙◌}
use mathlib.Core.Bool.{Bool, true, false}
use mathlib.Core.List.{List, [], ◌∷◌, ◌++◌}
use Prim.Native.Nat.{ℕ, zero, suc, ◌+◌, ◌≤◌, ◌<◌}
use native.Mathlib.Nat.{zero-add, suc-add}
use native.Mathlib.Omega.{arith}
use lib.ListN.{length}
use Rattle.bits.specs.Bits.{◌⊕◌, bit_num, add_one, ones, cut}

-- one more is a bit more
pub add_bit : (b : Bool) (n : ℕ) → add_one b n ≡ bit_num b + n
add_bit true n = omega arith
add_bit false n = omega arith

-- no more ones than bits
pub ones_le : (l : List Bool) → ones l ≤ length l
ones_le [] = omega arith
ones_le (true ∷ l) = omega (arith, ones_le l)
ones_le (false ∷ l) = omega (arith, ones_le l)

-- the ones of two lists joined
pub ones_append : (l m : List Bool) → ones (l ++ m) ≡ ones l + ones m
ones_append [] m = sym (zero-add (ones m))
ones_append (true ∷ l) m = ap suc (ones_append l m) ∙ sym (suc-add (ones l) (ones m))
ones_append (false ∷ l) m = ones_append l m

-- flips keep the length
pub ⊕_length : (l m : List Bool) → length (l ⊕ m) ≡ length l
⊕_length [] m = refl
⊕_length (b ∷ l) [] = refl
⊕_length (b ∷ l) (e ∷ m) = ap suc (⊕_length l m)

-- a part of a sequence in which no bit is set
none_set : (g : ℕ → Bool) (i n : ℕ) → ((j : ℕ) → i ≤ j → j < i + n → g j ≡ true → ⊥) → ones (cut g i n) ≡ 0
none_set g i zero h = refl
none_set g i (suc n) h = go (g i) refl (none_set g (suc i) n (λ j a b. h j (omega arith) (omega arith)))
  where
    go : (b : Bool) → g i ≡ b → ones (cut g (suc i) n) ≡ 0 → add_one b (ones (cut g (suc i) n)) ≡ 0
    go true e m = absurd (h i (omega arith) (omega arith) e)
    go false e m = m

-- a part of a sequence in which no bit is set but bit k: at most one
pub one_set : (g : ℕ → Bool) (k i n : ℕ) → ((j : ℕ) → i ≤ j → j < i + n → g j ≡ true → j ≡ k) → ones (cut g i n) ≤ 1
one_set g k i zero h = omega arith
one_set g k i (suc n) h = go (g i) refl (one_set g k (suc i) n (λ j a b. h j (omega arith) (omega arith)))
  where
    go : (b : Bool) → g i ≡ b → ones (cut g (suc i) n) ≤ 1 → add_one b (ones (cut g (suc i) n)) ≤ 1
    go true e m =
        let first : i ≡ k = h i (omega arith) (omega arith) e in
        let none = none_set g (suc i) n (λ j a b f. omega (arith, first, h j (omega arith) (omega arith) f)) in
        omega (arith, none)
    go false e m = m
