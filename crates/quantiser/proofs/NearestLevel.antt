-- The nearest of the levels 0 to n, for any levels: no level of these is nearer, and every lower one is farther. Assumes nothing.
use mathlib.Core.Path.{◌≡◌, refl}
use mathlib.Core.Logic.{◌⊎◌, inl, inr, ⊎_elim}
use mathlib.Core.Bool.{Bool, true, false}
use Prim.Native.Nat.{ℕ, zero, suc, ◌≤◌, ◌<◌}
use native.Mathlib.Nat.{le_refl, lt_of_lt_of_le, eq-or-lt_of_le}
use native.Mathlib.Omega.{arith}
use lib.Dec.{ltb}
use lib.IntN.{ℤ}
use borrow.Author.Tests.{ltb-true, ltb-false, lt-ltb, le-ltb}
use Rattle.quantiser.specs.Choice.{distance, nearest}

-- a number is less than another, or it is not
less_or_not : (a b : ℕ) → (a < b) ⊎ (b ≤ a)
less_or_not a b = go (ltb a b) refl
  where
    go : (t : Bool) → ltb a b ≡ t → (a < b) ⊎ (b ≤ a)
    go true e = inl (ltb-true a b e)
    go false e = inr (ltb-false a b e)

module _ (lv : ℕ → ℕ) (x : ℤ) where
  -- a nearer next level is taken
  pub nearest_up : (n : ℕ) → distance x (lv (suc n)) < distance x (lv (nearest lv x n)) → nearest lv x (suc n) ≡ suc n
  unfolding nearest
  nearest_up n h = rw (lt-ltb _ _ h)

  -- a next level that is not nearer is not
  pub nearest_stays : (n : ℕ) → distance x (lv (nearest lv x n)) ≤ distance x (lv (suc n)) → nearest lv x (suc n) ≡ nearest lv x n
  unfolding nearest
  nearest_stays n h = rw (le-ltb _ _ h)

  -- the next level is nearer, or it is not
  nearest_next : (n : ℕ) →
      (distance x (lv (suc n)) < distance x (lv (nearest lv x n))) ⊎ (distance x (lv (nearest lv x n)) ≤ distance x (lv (suc n)))
  nearest_next n = less_or_not (distance x (lv (suc n))) (distance x (lv (nearest lv x n)))

  -- the index is at most n
  pub nearest_le : (n : ℕ) → nearest lv x n ≤ n
  unfolding nearest
  nearest_le zero = omega arith
  nearest_le (suc n) =
      let ih = nearest_le n in
      ⊎_elim (λ h. omega (arith, nearest_up n h)) (λ h. omega (arith, nearest_stays n h)) (nearest_next n)

  -- no level of 0 to n is nearer
  pub nearest_least : (n i : ℕ) → i ≤ n → distance x (lv (nearest lv x n)) ≤ distance x (lv i)
  unfolding nearest
  nearest_least zero i h =
      let e : i ≡ 0 = omega arith in
      rw e (le_refl _)
  nearest_least (suc n) i h =
      let below = nearest_least n in
      ⊎_elim
      (λ u. rw (nearest_up n u) (⊎_elim (λ e. rw e (le_refl _)) (λ l. omega (arith, below i (omega arith))) (eq-or-lt_of_le h)))
      (λ s. rw (nearest_stays n s) (⊎_elim (λ e. rw e s) (λ l. below i (omega arith)) (eq-or-lt_of_le h)))
      (nearest_next n)

  -- every level below the nearest is farther
  pub nearest_lower : (n i : ℕ) → i < nearest lv x n → distance x (lv (nearest lv x n)) < distance x (lv i)
  unfolding nearest
  nearest_lower zero i h = absurd (omega arith)
  nearest_lower (suc n) i h =
      let below = nearest_lower n i in
      ⊎_elim
      (λ u. rw (nearest_up n u) (lt_of_lt_of_le u (nearest_least n i (omega (arith, nearest_up n u)))))
      (λ s. rw (nearest_stays n s) (below (omega (arith, nearest_stays n s))))
      (nearest_next n)
