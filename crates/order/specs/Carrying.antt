-- Document 02, T-04: the place of a logical bit, carried along from one bit to the next.
use Rattle.std.specs.Prelude.{ℕ, zero, suc, ◌+◌, ◌*◌, ◌-◌, ◌%◌, ◌≡◌, cond, leb}

-- the place after t: add 7 and, at 54 or above, take 54 off
abbrev pub next_place : ℕ → ℕ
next_place t = cond (leb 54 (t + 7)) (t + 7 - 54) (t + 7)

-- the place carried to logical bit j; that of logical bit 0 is 0
unfoldable pub carried_place : ℕ → ℕ
carried_place zero = 0
carried_place (suc j) = next_place (carried_place j)

-- what is claimed of it: at every logical bit j it is 7 × j modulo 54
abbrev pub CarriedPlaces : Type 0
CarriedPlaces = (j : ℕ) → carried_place j ≡ 7 * j % 54
