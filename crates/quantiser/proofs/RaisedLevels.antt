-- A level and the levels that it is compared with, raised by the same number: no distance changes, so the nearest stays.
-- A level in range, raised by 18600, is an unsigned number. Assumes nothing.
use mathlib.Core.Path.{◌≡◌, refl, sym, ap, ◌∙◌}
use mathlib.Core.Bool.{true, and-eq-true_iff}
use Prim.Native.Nat.{ℕ, zero, suc, ◌+◌, ◌-◌, ◌*◌, ◌≤◌}
use native.Mathlib.Omega.{arith}
use lib.IntN.{ℤ, pos, negsuc, neg_ℤ, nat_abs, ◌+ℤ◌, ◌-ℤ◌, +ℤ_assoc, +ℤ-neg_ℤ_cancel, neg_ℤ-+ℤ}
use borrow.Author.Tests.{leb-true, le-ltb}
use Rattle.gain.specs.Levels.{apart}
use Rattle.quantiser.specs.Choice.{distance, nearest, level_in_range}
use Rattle.quantiser.proofs.Thresholds.{uniform, index, distance_is}

-- what is at the same distances has the same nearest index
nearest_ext : (lv mv : ℕ → ℕ) (x y : ℤ) → ((i : ℕ) → distance x (lv i) ≡ distance y (mv i)) →
    (n : ℕ) → nearest lv x n ≡ nearest mv y n
unfolding nearest
nearest_ext lv mv x y h zero = refl
nearest_ext lv mv x y h (suc n) = simp (nearest_ext lv mv x y h n, h)

-- both raised by s: the same difference
difference_raised : (x : ℤ) (s l : ℕ) → (x +ℤ pos s) -ℤ pos (s + l) ≡ x -ℤ pos l
difference_raised x s l =
    let m = neg_ℤ (pos l) in
    ap (λ (z : ℤ). (x +ℤ pos s) +ℤ z) (neg_ℤ-+ℤ (pos s) (pos l))
    ∙ sym (+ℤ_assoc (x +ℤ pos s) (neg_ℤ (pos s)) m)
    ∙ ap (λ (z : ℤ). z +ℤ m) (+ℤ-neg_ℤ_cancel x (pos s))

module _ (x : ℤ) (s v : ℕ) (e : pos v ≡ x +ℤ pos s) where
  -- a raised level is as far from a raised level
  pub distance_raised : (l : ℕ) → distance (pos v) (s + l) ≡ distance x l
  distance_raised l = rw e (ap nat_abs (difference_raised x s l))

  -- the same as the difference of two unsigned numbers
  pub apart_raised : (l : ℕ) → apart v (s + l) ≡ distance x l
  apart_raised l = sym (distance_is v (s + l)) ∙ distance_raised l

  -- levels that rise by a step, raised: the same nearest index
  pub nearest_raised : (lv : ℕ → ℕ) (base step : ℕ) → ((i : ℕ) → base + i * step ≡ s + lv i) →
      (n : ℕ) → index base step v n ≡ nearest lv x n
  nearest_raised lv base step h n =
      nearest_ext (uniform base step) lv (pos v) x (λ i. ap (λ (l : ℕ). distance (pos v) l) (h i) ∙ distance_raised (lv i)) n

-- a level in range, raised by 18600, is at least 0 and at most 55800
pub raised_in_range : (x : ℤ) → level_in_range x ≡ true → (v : ℕ) × (x +ℤ pos 18600 ≡ pos v) × (v ≤ 55800)
raised_in_range (pos n) h = (n + 18600, refl, omega (arith, leb-true n 37200 h))
raised_in_range (negsuc n) h =
    let l : n ≤ 18599 = leb-true n 18599 ((and-eq-true_iff _ true).0 h).0 in
    (18600 - suc n, rw (le-ltb 18600 (suc n) (omega arith)), omega arith)
