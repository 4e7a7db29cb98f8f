-- How the code finds and judges a row of either codebook: by its number among all rows. Helpers of the code, no part of document 01.
use Rattle.std.specs.Prelude.{ℕ, ◌+◌, ◌*◌, not, cond, List, [], ◌∷◌, ltb, eqb, length, ℤ, Option, None, Some}
use Rattle.refusal.specs.Refusals.{first_refusal}
use Rattle.refusal.specs.declared.Refusal.{Refusal}
use Rattle.refusal.specs.declared.Refusal.TheVariants.{InvalidCodebook, EntryOutOfRange}
use Rattle.codebook.specs.Rows.{stage_rows, stage_start, row_at, between, all_fit}
use Rattle.codebook.specs.declared.shape.Shape.{Shape}

-- the number of a stage's row among all rows, where the stage has such a row
abbrev pub lsf_row_number : ℕ → ℕ → Option ℕ
lsf_row_number stage index = cond (ltb index (stage_rows stage)) (Some (stage_start stage + index)) None

-- the refusal of row k of a codebook of that shape, which has such a row: the codebook is not whole, or an entry does not fit
abbrev pub row_refusal : Shape → List ℤ → ℕ → Option Refusal
row_refusal shape codebook k =
    first_refusal (
    (not (eqb (length codebook) (10 * shape.rows)), InvalidCodebook)
    ∷ (not (all_fit (between shape.least shape.most) (row_at codebook k)), EntryOutOfRange)
    ∷ [])
