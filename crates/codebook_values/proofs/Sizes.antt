-- Sizes of signed numbers: of a sum, of an entry within the limit, of four of them added. By cases on the signs.
-- Assumes nothing.
use mathlib.Core.Path.{◌≡◌}
use mathlib.Core.Bool.{true, and-eq-true_iff}
use Prim.Native.Nat.{ℕ, ◌+◌, ◌<◌, ◌≤◌, ◌^◌}
use native.Mathlib.Nat.{le_refl}
use native.Mathlib.Omega.{arith}
use lib.IntN.{ℤ, pos, negsuc, nat_abs, ◌+ℤ◌}
use lib.Signed.{mag, ◌≤ℤ◌}
use mir.Syntax.{w64}
use mir.Val.{SFits, to_z, of_z}
use mir.ValLaws.{to_z-of_z}
use borrow.Author.Tests.{leb-true}
use Rattle.std.proofs.lemmas.Int.{ints, clamps}
use Rattle.codebook.specs.Rows.{lsf_fits}
use Rattle.std.specs.Int.{int_max, int_min}

-- the size that a width's range is told by
mag_le : (z : ℤ) → mag z ≤ nat_abs z
mag_le (pos n) = le_refl n
mag_le (negsuc n) = omega arith

-- a number whose size is below the half of the type's range
pub abs_fits : (z : ℤ) → nat_abs z < 2 ^ 63 → SFits w64 z
abs_fits z h = record { sfits = omega (arith, mag_le z) }

-- a number that the type holds is read back from its bits
pub number_back : (z : ℤ) → mag z < 2 ^ 63 → to_z w64 (of_z w64 z) ≡ z
number_back z h = to_z-of_z w64 z (record { sfits = h })

-- a sum is at most as large as both numbers together
pub abs_add_le : (x y : ℤ) → nat_abs (x +ℤ y) ≤ nat_abs x + nat_abs y
abs_add_le x y = omega (arith, ints)

-- the larger of two numbers has the size of one of them
pub abs_larger_le : (x y : ℤ) (n : ℕ) → nat_abs x ≤ n → nat_abs y ≤ n → nat_abs (int_max x y) ≤ n
abs_larger_le x y n hx hy = omega (arith, ints, clamps)

-- the smaller of two numbers of which the first is not negative is at most as large as the second
pub abs_smaller_le : (x most : ℤ) → pos 0 ≤ℤ x → nat_abs (int_min x most) ≤ nat_abs most
abs_smaller_le x most h = omega (arith, ints, clamps)

-- an LSF entry within its limit
pub lsf_abs_le : (z : ℤ) → lsf_fits z ≡ true → nat_abs z ≤ 4000000000
lsf_abs_le (pos n) e = leb-true n 4000000000 e
lsf_abs_le (negsuc n) e = omega (arith, leb-true n 3999999999 ((and-eq-true_iff _ true).0 e).0)

-- four entries within the limit add up to at most 16,000,000,000 on either side of 0
pub four_abs_le : (a b c d : ℤ) → lsf_fits a ≡ true → lsf_fits b ≡ true → lsf_fits c ≡ true → lsf_fits d ≡ true
    → nat_abs (a +ℤ b +ℤ c +ℤ d) ≤ 16000000000
four_abs_le a b c d ha hb hc hd =
    omega (arith, lsf_abs_le a ha, lsf_abs_le b hb, lsf_abs_le c hc, lsf_abs_le d hd, abs_add_le a b, abs_add_le (a +ℤ b) c, abs_add_le (a +ℤ b +ℤ c) d)

-- such an entry is read back from its bits
pub lsf_back : (z : ℤ) → lsf_fits z ≡ true → to_z w64 (of_z w64 z) ≡ z
lsf_back z e = to_z-of_z w64 z (abs_fits z (omega (arith, lsf_abs_le z e)))
