-- Of few frames the sum is not too large for the number that it is kept in.
-- Assumes nothing.
use Rattle.std.proofs.Common.{◌≡◌, ℕ, ◌*◌, ◌≤◌, min, arith}

pub sum_exact : (whole sum frames : ℕ) → sum ≡ min whole 18446744073709551615 → sum ≤ 10000000000 * frames → frames ≤ 65588 → sum ≡ whole
sum_exact whole sum frames e b h = omega (arith, e)
