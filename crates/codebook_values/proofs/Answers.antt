-- What a call for values owes: refused before any row is looked at, or by the entries of the rows in use.
-- Assumes nothing.
use mathlib.Core.Path.{◌≡◌, refl}
use mathlib.Core.Bool.{Bool, true, false, not}
use mathlib.Core.List.{List, [], ◌∷◌, ◌++◌}
use Prim.Native.Nat.{ℕ, ◌≤◌}
use lib.Dec.{ltb, eqb}
use lib.ListN.{length}
use lib.IntN.{ℤ}
use borrow.Author.Tests.{ltb-false, eqb-true}
use Rattle.std.specs.Prelude.{None}
use Rattle.refusal.specs.Refusals.{Table, first_refusal}
use Rattle.refusal.specs.declared.Refusal.TheVariants.{ShortOutput, OutOfRange, InvalidCodebook}
use Rattle.refusal.proofs.Refusals.{append_none}
use Rattle.sets.specs.Sets.{in_range}
use Rattle.sets.specs.declared.ParameterSet.{ParameterSet}
use Rattle.codebook_values.specs.Checks.{early_table, rows_table, rows_refusal}

-- where nothing is refused before the rows, every test before them is passed
early_only : (short range whole : Bool) → first_refusal ((short, ShortOutput) ∷ (not range, OutOfRange) ∷ (not whole, InvalidCodebook) ∷ []) ≡ None
    → (short ≡ false) × (range ≡ true) × (whole ≡ true)
early_only true range whole e = cc
early_only false true true e = (refl, refl, refl)
early_only false true false e = cc
early_only false false whole e = cc

-- what is known where nothing is refused before the rows
pub record Passed (set : ParameterSet) (codebook : List ℤ) (size room : ℕ) : Type 0 where
  pub long : 10 ≤ room
  pub range : in_range set ≡ true
  pub whole : length codebook ≡ size
  pub rest : (fit : Bool) → first_refusal (early_table (in_range set) (length codebook) size room ++ rows_table fit) ≡ rows_refusal fit

pub early_passed : (set : ParameterSet) (codebook : List ℤ) (size room : ℕ)
    → first_refusal (early_table (in_range set) (length codebook) size room) ≡ None → Passed set codebook size room
early_passed set codebook size room z =
    let p = early_only (ltb room 10) (in_range set) (eqb (length codebook) size) z in
    record {
      long = ltb-false room 10 p.0;
      range = p.1;
      whole = eqb-true (length codebook) size p.2;
      rest = λ fit. rw (p.0, p.1, p.2) refl;
    }

-- where no table refuses at all, every test before the rows is passed
pub table_passed : (set : ParameterSet) (codebook : List ℤ) (size room : ℕ) (others : Table)
    → first_refusal (early_table (in_range set) (length codebook) size room ++ others) ≡ None → Passed set codebook size room
table_passed set codebook size room others e =
    early_passed set codebook size room (append_none (early_table (in_range set) (length codebook) size room) others e)

-- where the rows in use refuse nothing, their entries fit
pub rows_taken : (fit : Bool) → None ≡ rows_refusal fit → fit ≡ true
rows_taken true e = refl
rows_taken false e = cc
