-- What is chosen is in range and decodes as it should: the second code to the nearest of the 32 levels, the first to the mean exactly in a
-- steady frame, and otherwise to the nearest of the seven levels. Assumes nothing.
use mathlib.Core.Path.{◌≡◌, refl}
use mathlib.Core.Bool.{Bool, true, false, cond}
use Prim.Native.Nat.{ℕ, suc, ◌+◌, ◌≤◌, ◌<◌}
use native.Mathlib.Numerals.{one-add}
use native.Mathlib.Omega.{arith}
use lib.IntN.{ℤ}
use Rattle.gain.specs.Levels.{level, mean, first_level}
use Rattle.quantiser.specs.Choice.{distance, nearest, seven_levels, steady, chosen_g2, chosen_g1}
use Rattle.quantiser.proofs.NearestLevel.{nearest_le, nearest_least, nearest_lower}

module _ (second : ℤ) where
  -- the second code is at most 31
  pub second_le : chosen_g2 second ≤ 31
  second_le = nearest_le level second 31

  -- no second level is nearer than that of the chosen code
  pub second_least : (i : ℕ) → i ≤ 31 → distance second (level (chosen_g2 second)) ≤ distance second (level i)
  second_least i h = nearest_least level second 31 i h

  -- that of every lower code is farther
  pub second_lower : (i : ℕ) → i < chosen_g2 second → distance second (level (chosen_g2 second)) < distance second (level i)
  second_lower i h = nearest_lower level second 31 i h

-- a code of two cases, 0 and 1 plus an index, is at most 1 plus the largest index
code_le : (t : Bool) {i n : ℕ} → i ≤ n → cond t 0 (1 + i) ≤ 1 + n
code_le true h = omega arith
code_le false h = omega arith

-- it is 0 in the first case only
code_zero : (t : Bool) (i : ℕ) → cond t 0 (1 + i) ≡ 0 → t ≡ true
code_zero true i e = refl
code_zero false i e = absurd (omega arith)

module _ (first : ℤ) (g2 q : ℕ) where
  -- the first code is at most 7
  pub first_le : chosen_g1 first g2 q ≤ 7
  unfolding chosen_g1
  first_le = code_le (steady first g2 q) (nearest_le (seven_levels g2 q) first 6)

  -- code 0 is chosen in a steady frame only
  pub first_zero_only : chosen_g1 first g2 q ≡ 0 → steady first g2 q ≡ true
  unfolding chosen_g1
  first_zero_only e = code_zero (steady first g2 q) _ e

  -- and in every one; it decodes to the mean of both second levels
  pub first_steady : steady first g2 q ≡ true → (chosen_g1 first g2 q ≡ 0) × (first_level g2 (chosen_g1 first g2 q) q ≡ mean g2 q)
  unfolding chosen_g1 first_level
  first_steady e = (simp e, simp e)

  -- any other has one of the codes 1 to 7
  first_other : steady first g2 q ≡ false → chosen_g1 first g2 q ≡ suc (nearest (seven_levels g2 q) first 6)
  unfolding chosen_g1
  first_other e = simp (e, one-add)

  -- no level of the codes 1 to 7 is nearer than what it decodes to
  pub first_least : steady first g2 q ≡ false → (i : ℕ) → i ≤ 6 →
      distance first (first_level g2 (chosen_g1 first g2 q) q) ≤ distance first (first_level g2 (suc i) q)
  first_least e i h = rw (first_other e) (nearest_least (seven_levels g2 q) first 6 i h)

  -- that of every lower one of these codes is farther
  pub first_lower : steady first g2 q ≡ false → (i : ℕ) → suc i < chosen_g1 first g2 q →
      distance first (first_level g2 (chosen_g1 first g2 q) q) < distance first (first_level g2 (suc i) q)
  first_lower e i h = rw (first_other e) (nearest_lower (seven_levels g2 q) first 6 i (omega (arith, first_other e)))
