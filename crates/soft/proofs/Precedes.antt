-- The order of keys: the first numbers decide, or where they are equal the rest. It is strict. Where both keys end with their own number and the larger
-- number is asked, what stands before it decides.
-- Assumes nothing.
use mathlib.Core.Path.{◌≡◌, refl, ap, ◌∙◌}
use mathlib.Core.Logic.{◌⊎◌, inl, inr}
use mathlib.Core.Bool.{Bool, true, false, ◌&&◌, ◌||◌, false≢true, and-false}
use mathlib.Core.List.{List, [], ◌∷◌, ◌++◌}
use Prim.Native.Nat.{ℕ, ◌≤◌, ◌<◌}
use native.Mathlib.Omega.{arith}
use lib.Dec.{eqb, ltb}
use lib.ListN.{length}
use borrow.Author.Tests.{ltb-true, eqb-true, lt-ltb, le-ltb, eq-eqb}
use Rattle.soft.specs.Least.{precedes}

-- of two keys the first numbers decide, or where they are equal the rest
module _ (x y : ℕ) (xs ys : List ℕ) where
  Decided : Type 0
  Decided = (x < y) ⊎ ((x ≡ y) × (precedes xs ys ≡ true))

  decided : precedes (x ∷ xs) (y ∷ ys) ≡ true → Decided
  unfolding Decided
  decided e = go (ltb x y) (eqb x y) refl refl e
    where
      go : (a b : Bool) → ltb x y ≡ a → eqb x y ≡ b → (a || (b && precedes xs ys)) ≡ true → (x < y) ⊎ ((x ≡ y) × (precedes xs ys ≡ true))
      go true b h k e = inl (ltb-true x y h)
      go false true h k e = inr (eqb-true x y k, e)
      go false false h k e = absurd (false≢true e)

  decides : Decided → precedes (x ∷ xs) (y ∷ ys) ≡ true
  unfolding Decided
  decides (inl h) = simp (lt-ltb x y h)
  decides (inr h) = simp (le-ltb x y (omega (arith, h.0)), eq-eqb x y h.0, h.1)

-- no key precedes itself
pub precedes_self : (xs : List ℕ) → precedes xs xs ≡ true → ⊥
unfolding Decided
precedes_self [] e = false≢true e
precedes_self (x ∷ xs) e = go (decided x x xs xs e) (precedes_self xs)
  where
    go : Decided x x xs xs → (precedes xs xs ≡ true → ⊥) → ⊥
    go (inl h) rest = omega arith
    go (inr h) rest = rest h.1

-- what precedes a key precedes all that this one precedes
pub precedes_trans : (xs ys zs : List ℕ) → precedes xs ys ≡ true → precedes ys zs ≡ true → precedes xs zs ≡ true
unfolding Decided
precedes_trans xs [] zs d e = absurd (false≢true d)
precedes_trans xs (y ∷ ys) [] d e = absurd (false≢true e)
precedes_trans [] (y ∷ ys) (z ∷ zs) d e = refl
precedes_trans (x ∷ xs) (y ∷ ys) (z ∷ zs) d e = decides x z xs zs (go (decided x y xs ys d) (decided y z ys zs e) (precedes_trans xs ys zs))
  where
    go : Decided x y xs ys → Decided y z ys zs → (precedes xs ys ≡ true → precedes ys zs ≡ true → precedes xs zs ≡ true) → Decided x z xs zs
    go (inl h) (inl k) rest = inl (omega arith)
    go (inl h) (inr k) rest = inl (omega (arith, k.0))
    go (inr h) (inl k) rest = inl (omega (arith, h.0))
    go (inr h) (inr k) rest = inr (h.0 ∙ k.0, rest h.1 k.1)

-- where a key ends with the number itself and the least so far is smaller, what stands before the number decides
pub last_decides : (xs ys : List ℕ) (u v : ℕ) → length xs ≡ length ys → v ≤ u → precedes (xs ++ u ∷ []) (ys ++ v ∷ []) ≡ precedes xs ys
last_decides [] [] u v e h = simp (le-ltb u v h, and-false (eqb u v))
last_decides [] (y ∷ ys) u v e h = absurd (omega arith)
last_decides (x ∷ xs) [] u v e h = absurd (omega arith)
last_decides (x ∷ xs) (y ∷ ys) u v e h = ap (λ (b : Bool). ltb x y || (eqb x y && b)) (last_decides xs ys u v (omega arith) h)
