-- How the code checks a call for values: first what needs no row, then the rows in use. Helpers of the code, no part of document 01.
use Rattle.std.specs.Prelude.{ℕ, Bool, not, [], ◌∷◌, ltb, eqb, Option}
use Rattle.refusal.specs.Refusals.{Table, first_refusal}
use Rattle.refusal.specs.declared.Refusal.{Refusal}
use Rattle.refusal.specs.declared.Refusal.TheVariants.{ShortOutput, OutOfRange, InvalidCodebook, EntryOutOfRange}

-- what refuses values before any row is looked at: too little room, a set out of range, a codebook of another length than its size
abbrev pub early_table : Bool → ℕ → ℕ → ℕ → Table
early_table ranged numbers size room = (ltb room 10, ShortOutput) ∷ (not ranged, OutOfRange) ∷ (not (eqb numbers size), InvalidCodebook) ∷ []

-- what refuses them by the rows in use, as these fit or not
abbrev pub rows_table : Bool → Table
rows_table fit = (not fit, EntryOutOfRange) ∷ []

-- the refusal by the rows
abbrev pub rows_refusal : Bool → Option Refusal
rows_refusal fit = first_refusal (rows_table fit)
