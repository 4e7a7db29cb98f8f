-- Two lists of numbers are the same where the test says so; what is the same as the default order is an order.
-- Assumes nothing.
use mathlib.Core.Path.{◌≡◌, refl, ap₂, subst⁻¹}
use mathlib.Core.List.{List, [], ◌∷◌}
use Prim.Native.Nat.{ℕ}
use lib.Dec.{T, eqb, eqb→eq, eqb_refl}
use Rattle.bits.proofs.Tests.{and_left, and_right, and_both}
use Rattle.order.specs.Order.{default_order, is_order}
use Rattle.order.specs.Listing.{same_numbers}
use Rattle.order.proofs.Orders.{default_is_order}

-- lists that are the same are equal
pub same_equal : (xs ys : List ℕ) → T (same_numbers xs ys) → xs ≡ ys
same_equal [] [] t = refl
same_equal [] (y ∷ ys) t = absurd t
same_equal (x ∷ xs) [] t = absurd t
same_equal (x ∷ xs) (y ∷ ys) t =
    ap₂ (λ (a : ℕ) (l : List ℕ). a ∷ l) (eqb→eq x y (and_left (eqb x y) (same_numbers xs ys) t)) (same_equal xs ys (and_right (eqb x y) (same_numbers xs ys) t))

-- a list is the same as itself
pub same_self : (xs : List ℕ) → T (same_numbers xs xs)
same_self [] = tt
same_self (x ∷ xs) = and_both (eqb x x) (same_numbers xs xs) (eqb_refl x) (same_self xs)

-- so what is the same as the default order is an order
pub same_default : (xs : List ℕ) → T (same_numbers xs default_order) → T (is_order xs)
same_default xs t = subst⁻¹ (λ (l : List ℕ). T (is_order l)) (same_equal xs default_order t) default_is_order
