-- Levels that rise by a step (5.3.7): the nearest index goes up at each threshold, half a step above a level, and stays at or below it.
-- Thresholds are doubled, so that they are whole numbers. Assumes nothing.
use mathlib.Core.Path.{◌≡◌, refl, ◌∙◌}
use mathlib.Core.Bool.{Bool, true, false, cond}
use Prim.Native.Nat.{ℕ, zero, suc, ◌+◌, ◌-◌, ◌*◌, ◌≤◌, ◌<◌}
use native.Mathlib.Nat.{zero-add, add-zero, suc-add, suc-mul, mul-le-mul_right}
use native.Mathlib.Omega.{arith}
use lib.Dec.{ltb}
use lib.IntN.{pos, negsuc, nat_abs}
use borrow.Author.Tests.{ltb-true, ltb-false}
use Rattle.gain.specs.Levels.{apart}
use Rattle.quantiser.specs.Choice.{distance, nearest}
use Rattle.quantiser.proofs.NearestLevel.{nearest_up, nearest_stays}

-- the distance of two unsigned numbers
pub distance_is : (v l : ℕ) → distance (pos v) l ≡ apart v l
distance_is v zero = omega arith
distance_is v (suc l) = go (ltb v (suc l)) refl
  where
    go : (t : Bool) → ltb v (suc l) ≡ t → nat_abs (cond t (negsuc (suc l - suc v)) (pos (v - suc l))) ≡ apart v (suc l)
    go true e = omega (arith, ltb-true v (suc l) e)
    go false e = omega (arith, ltb-false v (suc l) e)

-- the levels of a uniform quantiser, x₁ + i s
abbrev pub uniform : ℕ → ℕ → ℕ → ℕ
uniform base step i = base + i * step

-- twice the threshold between the levels i and i + 1, x₁ + (0.5 + i) s
abbrev pub threshold : ℕ → ℕ → ℕ → ℕ
threshold base step i = 2 * uniform base step i + step

-- the index that the quantiser with levels 0 to n gives the value v
abbrev pub index : ℕ → ℕ → ℕ → ℕ → ℕ
index base step v n = nearest (uniform base step) (pos v) n

module _ (base step v : ℕ) (rises : 1 ≤ step) where
  -- above the threshold the next level is nearer
  next_nearer : (i : ℕ) → threshold base step i < 2 * v → apart v (base + suc i * step) < apart v (base + i * step)
  next_nearer i h = omega (arith, suc-mul i step)

  -- at or below the threshold no higher level is nearer
  none_nearer : (i j : ℕ) → 2 * v ≤ threshold base step i → i < j → apart v (base + i * step) ≤ apart v (base + j * step)
  none_nearer i j h l =
      let m : suc i * step ≤ j * step = mul-le-mul_right step l in
      omega (arith, suc-mul i step)

  -- a value above the threshold goes up one index
  pub index_up : (i : ℕ) → index base step v i ≡ i → threshold base step i < 2 * v → index base step v (suc i) ≡ suc i
  index_up i e h = nearest_up (uniform base step) (pos v) i (simp (e, distance_is) (next_nearer i h))

  -- a value at or below the threshold goes no higher
  pub index_stays : (i k : ℕ) → index base step v i ≡ i → 2 * v ≤ threshold base step i → index base step v (k + i) ≡ i
  index_stays i zero e h = rw zero-add e
  index_stays i (suc k) e h =
      let t = index_stays i k e h in
      rw suc-add (nearest_stays (uniform base step) (pos v) (k + i) (simp (t, distance_is) (none_nearer i (suc (k + i)) h (omega arith))) ∙ t)

  -- index 0 is that of the values up to the lowest threshold
  pub index_first : (n : ℕ) → 2 * v ≤ threshold base step 0 → index base step v n ≡ 0
  unfolding nearest
  index_first n h = rw add-zero at (index_stays 0 n refl h)

  -- the last index is that of the values above the highest threshold
  pub index_last : (n : ℕ) → threshold base step n < 2 * v → index base step v (suc n) ≡ suc n
  unfolding nearest
  index_last zero h = index_up 0 refl h
  index_last (suc n) h = index_up (suc n) (index_last n (omega (arith, suc-mul n step))) h

  -- any other is that of the values above one threshold and up to the next
  pub index_between : (i k : ℕ) → threshold base step i < 2 * v → 2 * v ≤ threshold base step (suc i) →
      index base step v (k + suc i) ≡ suc i
  index_between i k l h = index_stays (suc i) k (index_last i l) h
