-- The comparison of two lists of bytes passes for the same list and for no other.
-- Assumes nothing.
use mathlib.Core.Path.{◌≡◌, refl, ap₂}
use mathlib.Core.List.{List, [], ◌∷◌}
use Prim.Native.Nat.{ℕ}
use lib.Dec.{T, eqb, eqb→eq}
use borrow.Author.Tests.{eq-eqb}
use Rattle.bits.proofs.Tests.{and_left, and_right, and_both, T_true}
use Rattle.set_bytes.specs.SetBytes.{same}

-- a list passes against itself
pub same_self : (a : List ℕ) → T (same a a)
same_self [] = tt
same_self (x ∷ a) = and_both (eqb x x) (same a a) (T_true (eqb x x) (eq-eqb x x refl)) (same_self a)

-- lists that pass are the same
pub same_only : (a b : List ℕ) → T (same a b) → a ≡ b
same_only [] [] t = refl
same_only [] (y ∷ b) t = absurd t
same_only (x ∷ a) [] t = absurd t
same_only (x ∷ a) (y ∷ b) t =
    ap₂ (λ (z : ℕ) (l : List ℕ). z ∷ l) (eqb→eq x y (and_left (eqb x y) (same a b) t)) (same_only a b (and_right (eqb x y) (same a b) t))
