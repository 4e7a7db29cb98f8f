-- The first level for every pair of second codes (5.3.3): code 0 is the mean; codes 1 to 7 are one step apart, from 6 dB (1116 units)
-- below the smaller second level to 6 dB above the larger. Assumes nothing.
use mathlib.Core.Path.{◌≡◌, refl}
use Prim.Native.Nat.{ℕ, zero, suc, ◌+◌, ◌-◌, ◌*◌, min, max}
use native.Mathlib.Nat.{suc-mul}
use native.Mathlib.Omega.{arith}
use Rattle.gain.specs.Levels.{level, apart, first_level}

module _ (g2 q : ℕ) where
  -- code 0 is half of the sum of both levels, with nothing lost
  pub first_mean : 2 * first_level g2 0 q ≡ level g2 + level q
  unfolding first_level
  first_mean = omega arith

  -- code 1 is 6 dB below the smaller level
  pub first_lowest : first_level g2 1 q + 1116 ≡ min (level g2) (level q)
  unfolding first_level
  first_lowest = omega arith

  -- each code from 2 on is one step above the code before
  pub first_next : (c : ℕ) → first_level g2 (suc (suc c)) q ≡ first_level g2 (suc c) q + (67 * apart g2 q + 372)
  unfolding first_level
  first_next c = omega (arith, suc-mul c (67 * apart g2 q + 372))

  -- a code that is not 0, by its distance from 1
  pub first_is : (c : ℕ) → (c ≡ 0 → ⊥) → first_level g2 c q ≡ min (level g2) (level q) - 1116 + (c - 1) * (67 * apart g2 q + 372)
  unfolding first_level
  first_is zero h = absurd (h refl)
  first_is (suc c) h =
      let e : suc c - 1 ≡ c = omega arith in
      rw e

  -- the code i + 1 is i steps above code 1
  pub first_rises : (i : ℕ) → first_level g2 (suc i) q ≡ first_level g2 1 q + i * (67 * apart g2 q + 372)
  unfolding first_level
  first_rises i = omega arith

  -- code 7 is 6 dB above the larger level
  pub first_highest : first_level g2 7 q ≡ max (level g2) (level q) + 1116
  unfolding first_level
  first_highest = omega arith
