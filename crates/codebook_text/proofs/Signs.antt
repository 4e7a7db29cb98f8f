-- A value of at most ten digits as a signed number of 64 bits, with a minus or without. Assumes nothing.
use mathlib.Core.Path.{◌≡◌, ap, ◌∙◌}
use Prim.Native.Nat.{ℕ, zero, suc, ◌<◌}
use native.Mathlib.Omega.{arith}
use lib.IntN.{pos, neg_ℤ, ◌-ℤ◌, +ℤ_idl}
use mir.Syntax.{w64}
use mir.Val.{SFits, to_z, of_z}
use mir.ValLaws.{to_z_pos, to_z-of_z}

module _ (m : ℕ) (h : m < 10000000000) where
  -- the bits of the value are its own
  pub signed_is : to_z w64 m ≡ pos m
  signed_is = to_z_pos w64 m (omega arith)

-- 0 less a value is the value with a minus
less_is : (m : ℕ) → pos 0 -ℤ pos m ≡ neg_ℤ (pos m)
less_is m = +ℤ_idl (neg_ℤ (pos m))

-- which fits
minus_fits : (m : ℕ) → m < 10000000000 → SFits w64 (neg_ℤ (pos m))
minus_fits zero h = record { sfits = omega arith }
minus_fits (suc m) h = record { sfits = omega arith }

module _ (m : ℕ) (h : m < 10000000000) where
  -- the difference of 0 and the value fits
  pub negated_fits : SFits w64 (pos 0 -ℤ to_z w64 m)
  negated_fits = rw (signed_is m h, less_is) (minus_fits m h)

  -- and is the value with a minus
  pub negated_is : to_z w64 (of_z w64 (pos 0 -ℤ to_z w64 m)) ≡ neg_ℤ (pos m)
  negated_is = to_z-of_z w64 _ negated_fits ∙ ap (λ z. pos 0 -ℤ z) (signed_is m h) ∙ less_is m
