-- Document 01, "Gain levels" (5.3.3): the level of a second code G2, and the first level of a frame, after a frame whose second code is q.
use Rattle.std.specs.Prelude.{ℕ, zero, suc, ◌+◌, ◌-◌, ◌*◌, ◌/◌, min, not, ◌&&◌, [], ◌∷◌, leb, Option, Result}
use Rattle.refusal.specs.Refusals.{first_refusal, unless}
use Rattle.refusal.specs.declared.Refusal.{Refusal}
use Rattle.refusal.specs.declared.Refusal.TheVariants.{OutOfRange}

-- the level of a second code, in units of 1/186 dB (document 01's grain): 10 dB to 77 dB in 31 steps
abbrev pub level : ℕ → ℕ
level g2 = 1860 + 402 * g2

-- d, the distance of two second codes
abbrev pub apart : ℕ → ℕ → ℕ
apart g2 q = (g2 - q) + (q - g2)

-- the mean of both levels
abbrev pub mean : ℕ → ℕ → ℕ
mean g2 q = (level g2 + level q) / 2

-- the first level of a code: 0 is the mean; 1 to 7 go up from 6 dB below the smaller level to 6 dB above the larger one
unfoldable pub first_level : ℕ → ℕ → ℕ → ℕ
first_level g2 zero q = mean g2 q
first_level g2 (suc c) q = min (level g2) (level q) - 1116 + c * (67 * apart g2 q + 372)

-- the refusal of a level: G2 is out of range
abbrev pub level_refusal : ℕ → Option Refusal
level_refusal g2 = first_refusal ((not (leb g2 31), OutOfRange) ∷ [])

-- the refusal of a first level: G2, the code or q is out of range
abbrev pub first_level_refusal : ℕ → ℕ → ℕ → Option Refusal
first_level_refusal g2 code q = first_refusal ((not (leb g2 31 && leb code 7 && leb q 31), OutOfRange) ∷ [])

-- the answer to a call for the level of G2
unfoldable pub level_answer : ℕ → Result ℕ Refusal
level_answer g2 = unless (level_refusal g2) (level g2)

-- the answer to a call for the first level
unfoldable pub first_level_answer : ℕ → ℕ → ℕ → Result ℕ Refusal
first_level_answer g2 code q = unless (first_level_refusal g2 code q) (first_level g2 code q)
