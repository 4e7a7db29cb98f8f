-- A row handed out of a whole codebook has ten numbers exactly where its entries fit, and is then the row itself.
-- Assumes nothing.
use mathlib.Core.Path.{◌≡◌, ap, ◌∙◌}
use mathlib.Core.Bool.{Bool, true, false, not, false≢true}
use mathlib.Core.List.{List, [], ◌∷◌}
use Prim.Native.Nat.{ℕ, ◌+◌, ◌*◌, ◌≤◌, ◌<◌}
use native.Mathlib.Omega.{arith}
use lib.Dec.{eqb}
use lib.ListN.{length, drop, length-drop}
use lib.Seq.{length-take-le}
use lib.IntN.{ℤ}
use borrow.Author.Tests.{lt-ltb, eq-eqb}
use Rattle.refusal.specs.Refusals.{first_refusal}
use Rattle.refusal.specs.declared.Refusal.TheVariants.{EntryOutOfRange}
use Rattle.codebook.specs.Rows.{lsf_size, stage_rows, stage_start, lsf_row, lsf_fits, lsf_row_refusal}
use Rattle.codebook.specs.Rows.{magnitude_size, magnitude_row}
use Rattle.codebook.specs.Rows.{row_at, all_fit, row_unless}
use Rattle.codebook.proofs.StageRows.{row_lt}

-- a row that the codebook has is ten numbers
pub row_length : (codebook : List ℤ) (k : ℕ) → 10 * k + 10 ≤ length codebook → length (row_at codebook k) ≡ 10
row_length codebook k h =
    let d : 10 ≤ length (drop (10 * k) codebook) = simp length-drop (omega arith) in
    length-take-le 10 (drop (10 * k) codebook) d

-- so is a row of a stage, and a row of magnitudes
pub lsf_row_length : (codebook : List ℤ) (stage index : ℕ) → length codebook ≡ lsf_size → index < stage_rows stage → length (lsf_row codebook stage index) ≡ 10
lsf_row_length codebook stage index h i = row_length codebook (stage_start stage + index) (omega (arith, row_lt stage index i))

pub magnitude_row_length : (codebook : List ℤ) (index : ℕ) → length codebook ≡ magnitude_size → index < 256 → length (magnitude_row codebook index) ≡ 10
magnitude_row_length codebook index h i = row_length codebook index (omega arith)

-- what is handed out for a row whose entries fit or not
pub record HandedRow (row : List ℤ) (fit : Bool) (r : List ℤ) : Type 0 where
  pub ten : eqb (length r) 10 ≡ fit
  pub whole : fit ≡ true → r ≡ row

-- the row where they fit, otherwise no numbers
row_handed : (row : List ℤ) (fit : Bool) (r : List ℤ) → length row ≡ 10 → r ≡ row_unless (first_refusal ((not fit, EntryOutOfRange) ∷ [])) row → HandedRow row fit r
row_handed row true r h e = record { ten = eq-eqb (length r) 10 (ap length e ∙ h); whole = λ t. e }
row_handed row false r h e = record { ten = ap (λ (s : List ℤ). eqb (length s) 10) e; whole = λ t. absurd (false≢true t) }

-- where it is of a stage
pub lsf_row_handed : (codebook : List ℤ) (stage index : ℕ) (r : List ℤ) → length codebook ≡ lsf_size → index < stage_rows stage
    → r ≡ row_unless (lsf_row_refusal codebook stage index) (lsf_row codebook stage index)
    → HandedRow (lsf_row codebook stage index) (all_fit lsf_fits (lsf_row codebook stage index)) r
lsf_row_handed codebook stage index r h i e =
    let t = lt-ltb index (stage_rows stage) i in
    let w = eq-eqb (length codebook) lsf_size h in
    row_handed _ _ r (lsf_row_length codebook stage index h i) (simp (t, w) at e)
