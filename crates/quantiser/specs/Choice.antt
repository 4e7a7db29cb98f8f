-- Document 01, "Gain levels" (5.3.3, 5.3.7): choosing codes from a first and a second level, and q, the second code before.
use Rattle.std.specs.Prelude.{ℕ, zero, suc, ◌+◌, Bool, not, ◌&&◌, cond, [], ◌∷◌, leb, ltb, ℤ, pos, neg_ℤ, nat_abs, ◌-ℤ◌, Option, Result}
use Rattle.std.specs.Int.Signed.{le_z}
use Rattle.refusal.specs.Refusals.{first_refusal, unless}
use Rattle.refusal.specs.declared.Refusal.{Refusal}
use Rattle.refusal.specs.declared.Refusal.TheVariants.{OutOfRange}
use Rattle.gain.specs.Levels.{level, apart, mean, first_level}
use Rattle.quantiser.specs.declared.GainCodes.{GainCodes}

-- how far x is from the level l
abbrev pub distance : ℤ → ℕ → ℕ
distance x l = nat_abs (x -ℤ pos l)

-- of the indices i and j the one whose level is nearer to x, on a threshold i
abbrev pub nearer : (ℕ → ℕ) → ℤ → ℕ → ℕ → ℕ
nearer lv x i j = cond (ltb (distance x (lv j)) (distance x (lv i))) j i

-- the index of the nearest of the levels 0 to n, on a threshold the lower
unfoldable pub nearest : (ℕ → ℕ) → ℤ → ℕ → ℕ
nearest lv x zero = 0
nearest lv x (suc n) = nearer lv x (nearest lv x n) (suc n)

-- the second code: the index of the nearest of the 32 levels
abbrev pub chosen_g2 : ℤ → ℕ
chosen_g2 second = nearest level second 31

-- a steady frame: second codes at most 2 apart, and the first level within 3 dB of their levels' mean
abbrev pub steady : ℤ → ℕ → ℕ → Bool
steady first g2 q = leb (apart g2 q) 2 && leb (distance first (mean g2 q)) 558

-- the seven levels, of codes 1 to 7
abbrev pub seven_levels : ℕ → ℕ → ℕ → ℕ
seven_levels g2 q i = first_level g2 (suc i) q

-- the first code: 0 for a steady frame and for no other, else one more than the index of the nearest of the seven
unfoldable pub chosen_g1 : ℤ → ℕ → ℕ → ℕ
chosen_g1 first g2 q = cond (steady first g2 q) 0 (1 + nearest (seven_levels g2 q) first 6)

-- the levels that codes are chosen for, −18600 to 37200
abbrev pub level_in_range : ℤ → Bool
level_in_range x = le_z (neg_ℤ (pos 18600)) x && le_z x (pos 37200)

-- the refusal of a choice: a level or q is out of range
abbrev pub choose_refusal : ℤ → ℤ → ℕ → Option Refusal
choose_refusal first second q = first_refusal ((not (level_in_range first && level_in_range second && leb q 31), OutOfRange) ∷ [])

-- both codes that are chosen
abbrev pub chosen : ℤ → ℤ → ℕ → GainCodes
chosen first second q = record { g2 = chosen_g2 second; g1 = chosen_g1 first (chosen_g2 second) q }

-- the answer to a call for both codes
unfoldable pub choose_answer : ℤ → ℤ → ℕ → Result GainCodes Refusal
choose_answer first second q = unless (choose_refusal first second q) (chosen first second q)
