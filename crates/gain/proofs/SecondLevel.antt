-- The levels of the second code (5.3.3): 10 dB at index 0, 67/31 dB more at each next, at 186 units to the decibel. Assumes nothing.
use mathlib.Core.Path.{◌≡◌}
use Prim.Native.Nat.{ℕ, ◌+◌, ◌*◌, ◌<◌}
use native.Mathlib.Omega.{arith}
use Rattle.gain.specs.Levels.{level}

-- 31 times the level is 310 dB and 67 dB for each index
pub level_is : (i : ℕ) → 31 * level i ≡ 186 * (310 + 67 * i)
level_is i = omega arith

-- each level is below the next
pub level_lt_next : (i : ℕ) → level i < level (i + 1)
level_lt_next i = omega arith
