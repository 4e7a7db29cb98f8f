-- The number that bits stand for, over any length.
-- Assumes nothing.
use mathlib.Core.Path.{◌≡◌, refl, sym, ap, ap₂, ◌∙◌, subst, subst⁻¹}
use mathlib.Core.Bool.{Bool, true, false}
use mathlib.Core.List.{List, [], ◌∷◌, ◌++◌}
use Prim.Native.Nat.{ℕ, ◌+◌, ◌*◌, ◌^◌, ◌<◌}
use native.Mathlib.Nat.{pow-suc, zero-mul, zero-add, add_assoc, add-mul, mul_assoc}
use native.Mathlib.Omega.{arith}
use lib.Dec.{lit<}
use lib.ListN.{length, length-append}
use lib.Pow.{pow-add}
use Rattle.bits.specs.Bits.{bit_num, value}

-- the value of n bits is below 2 ^ n
pub value_lt : (l : List Bool) → value l < 2 ^ length l
value_lt [] = lit< tt
value_lt (true ∷ l) = rw (pow-suc 2 (length l)) (omega (arith, value_lt l))
value_lt (false ∷ l) = rw (pow-suc 2 (length l)) (omega (arith, value_lt l))

-- the same where the length is known
pub value_lt_at : (n : ℕ) (l : List Bool) → length l ≡ n → value l < 2 ^ n
value_lt_at n l e = subst (λ (m : ℕ). value l < 2 ^ m) e (value_lt l)

-- so is a number that equals it
pub value_bound : (n : ℕ) (l : List Bool) (x : ℕ) → length l ≡ n → x ≡ value l → x < 2 ^ n
value_bound n l x e p = subst⁻¹ (λ (y : ℕ). y < 2 ^ n) p (value_lt_at n l e)

-- two lists joined: the first moves up by the length of the second
pub value_append : (l m : List Bool) → value (l ++ m) ≡ value l * 2 ^ length m + value m
value_append [] m = sym (ap (λ (x : ℕ). x + value m) (zero-mul (2 ^ length m)) ∙ zero-add (value m))
value_append (b ∷ l) m =
    ap₂ (λ (x y : ℕ). bit_num b * x + y) (ap (λ (x : ℕ). 2 ^ x) (length-append l m) ∙ pow-add 2 (length l) (length m)) (value_append l m)
    ∙ ap (λ (x : ℕ). x + (value l * 2 ^ length m + value m)) (sym (mul_assoc (bit_num b) (2 ^ length l) (2 ^ length m)))
    ∙ sym (add_assoc _ _ (value m))
    ∙ ap (λ (x : ℕ). x + value m) (sym (add-mul (bit_num b * 2 ^ length l) (value l) (2 ^ length m)))

-- the same where the values and the second length are known
pub value_join : (l m : List Bool) (n x y : ℕ) → length m ≡ n → value l ≡ x → value m ≡ y → value (l ++ m) ≡ x * 2 ^ n + y
value_join l m n x y e p q = value_append l m ∙ ap₂ (λ (a b : ℕ). a * 2 ^ length m + b) p q ∙ ap (λ (k : ℕ). x * 2 ^ k + y) e

-- bits of one length that stand for one number are the same
pub value_inj : (l m : List Bool) → length l ≡ length m → value l ≡ value m → l ≡ m
value_inj [] [] e v = refl
value_inj [] (b ∷ m) e v = absurd (omega arith)
value_inj (a ∷ l) [] e v = absurd (omega arith)
value_inj (a ∷ l) (b ∷ m) e v = go a b (value_inj l m f) (ap (λ (x : ℕ). 2 ^ x) f) v
  where
    f : length l ≡ length m
    f = omega arith

    go : (a b : Bool) → (value l ≡ value m → l ≡ m) → 2 ^ length l ≡ 2 ^ length m
        → bit_num a * 2 ^ length l + value l ≡ bit_num b * 2 ^ length m + value m → a ∷ l ≡ b ∷ m
    go true true rest p v = ap (λ (x : List Bool). true ∷ x) (rest (omega arith))
    go true false rest p v = absurd (omega (arith, value_lt m))
    go false true rest p v = absurd (omega (arith, value_lt l))
    go false false rest p v = ap (λ (x : List Bool). false ∷ x) (rest (omega arith))
