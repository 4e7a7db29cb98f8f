-- The larger and the smaller of two numbers: each is held to the second, and is the first where that is so already.
-- Assumes nothing.
use mathlib.Core.Path.{◌≡◌}
use native.Mathlib.Omega.{arith}
use lib.IntN.{ℤ}
use lib.Signed.{◌≤ℤ◌}
use Rattle.std.specs.Int.{int_max, int_min}
use Rattle.std.proofs.lemmas.Int.{ints, clamps}

-- the larger of two is at least the second
pub larger_le : (x least : ℤ) → least ≤ℤ int_max x least
larger_le x least = omega (arith, ints, clamps)

-- and is the first where that is at least the second
pub larger_kept : (x least : ℤ) → least ≤ℤ x → int_max x least ≡ x
larger_kept x least k = omega (arith, ints, clamps)

-- the smaller of two is at most the second
pub smaller_le : (x most : ℤ) → int_min x most ≤ℤ most
smaller_le x most = omega (arith, ints, clamps)

-- and is the first where that is at most the second
pub smaller_kept : (x most : ℤ) → x ≤ℤ most → int_min x most ≡ x
smaller_kept x most k = omega (arith, ints, clamps)

-- it is at least what both are at least
pub smaller_from : {z : ℤ} (x most : ℤ) → z ≤ℤ x → z ≤ℤ most → z ≤ℤ int_min x most
smaller_from {z} x most h k = omega (arith, ints, clamps)
