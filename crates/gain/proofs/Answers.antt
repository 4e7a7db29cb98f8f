-- What the calls answer where nothing is refused.
-- Assumes nothing.
use mathlib.Core.Path.{◌≡◌}
use Rattle.std.specs.Prelude.{Ok}
use Prim.Native.Nat.{ℕ, ◌≤◌}
use borrow.Author.Tests.{le-leb}
use Rattle.gain.specs.Levels.{level, first_level, level_answer, first_level_answer}

-- a second code's answer holds its level
pub level_answered : (g2 : ℕ) → g2 ≤ 31 → level_answer g2 ≡ Ok (level g2)
unfolding level_answer
level_answered g2 h = simp (le-leb g2 31 h)

-- a first code's answer, after a second code in range
pub first_level_answered : (g2 code q : ℕ) → g2 ≤ 31 → code ≤ 7 → q ≤ 31 → first_level_answer g2 code q ≡ Ok (first_level g2 code q)
unfolding first_level_answer
first_level_answered g2 code q h i j = simp (le-leb g2 31 h, le-leb code 7 i, le-leb q 31 j)
