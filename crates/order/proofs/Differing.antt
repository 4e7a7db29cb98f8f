-- Two lists compared entry by entry, without an early end: no bit of any two entries differs where the lists are the same, and only there.
-- Assumes nothing.
use mathlib.Core.Path.{◌≡◌, refl, sym, ap, ap₂, ◌∙◌}
use mathlib.Core.Bool.{Bool, true, false, ◌&&◌, and_assoc}
use mathlib.Core.List.{List}
use Prim.Native.Nat.{ℕ, ◌+◌, ◌<◌}
use native.Mathlib.Omega.{arith}
use native.Mathlib.Numerals.{add-one}
use lib.Bits.{bit_or, bit_xor, or_add_and, xor_add_and, and_le_l, and_le_r, xor_self}
use lib.Dec.{eqb}
use lib.ListN.{length, get_or, drop}
use lib.Seq.{drop-cons}
use borrow.Author.Tests.{eq-eqb, ne_eqb, eqb-true, eqb-false}
use Rattle.order.specs.Listing.{same_numbers}

-- two numbers that no bit is set in
or_none : (a b : ℕ) → bit_or a b ≡ 0 → (a ≡ 0) × (b ≡ 0)
or_none a b z = (omega (arith, or_add_and a b, and_le_r a b), omega (arith, or_add_and a b, and_le_l a b))

-- two numbers that differ in no bit
xor_none : (a b : ℕ) → bit_xor a b ≡ 0 → a ≡ b
xor_none a b z = omega (arith, xor_add_and a b, and_le_l a b, and_le_r a b)

-- no bit is set so far nor in what differs of two numbers: none so far, and they are equal
differ_none : (d x y : ℕ) → eqb (bit_or d (bit_xor x y)) 0 ≡ (eqb d 0 && eqb x y)
differ_none d x y = go (eqb d 0) (eqb x y) refl refl
  where
    all : ℕ
    all = bit_or d (bit_xor x y)

    go : (a b : Bool) → eqb d 0 ≡ a → eqb x y ≡ b → eqb all 0 ≡ (a && b)
    go true true ea eb = eq-eqb all 0 (ap₂ (λ (p q : ℕ). bit_or p (bit_xor x q)) (eqb-true d 0 ea) (sym (eqb-true x y eb)) ∙ xor_self x)
    go true false ea eb = ne_eqb all 0 (λ z. eqb-false x y eb (xor_none x y (or_none d (bit_xor x y) z).1))
    go false b ea eb = ne_eqb all 0 (λ z. eqb-false d 0 ea (or_none d (bit_xor x y) z).0)

-- one entry more of two lists compared, and what is left of them
pub differ_next : (d : ℕ) (xs ys : List ℕ) (t : ℕ) → t < length xs → t < length ys
    → (eqb (bit_or d (bit_xor (get_or xs t 0) (get_or ys t 0))) 0 && same_numbers (drop (t + 1) xs) (drop (t + 1) ys)) ≡ (eqb d 0 && same_numbers (drop t xs) (drop t ys))
differ_next d xs ys t h k =
    ap (λ (b : Bool). b && same_numbers (drop (t + 1) xs) (drop (t + 1) ys)) (differ_none d (get_or xs t 0) (get_or ys t 0))
    ∙ and_assoc (eqb d 0) (eqb (get_or xs t 0) (get_or ys t 0)) (same_numbers (drop (t + 1) xs) (drop (t + 1) ys))
    ∙ rw add-one (ap₂ (λ (l m : List ℕ). eqb d 0 && same_numbers l m) (sym (drop-cons xs t 0 h)) (sym (drop-cons ys t 0 k)))
