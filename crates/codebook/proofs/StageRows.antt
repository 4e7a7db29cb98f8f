-- Where the stages of the LSF codebook begin, and that the rows of all four end with row 319.
-- Assumes nothing.
use mathlib.Core.Path.{◌≡◌, refl}
use mathlib.Core.Bool.{Bool, true, false, cond}
use Prim.Native.Nat.{ℕ, zero, suc, ◌+◌, ◌<◌}
use native.Mathlib.Omega.{arith}
use lib.Dec.{ltb}
use borrow.Author.Tests.{ltb-true, ne_eqb, le-leb, lt-leb}
use Rattle.std.specs.Prelude.{None, Some}
use Rattle.codebook.specs.Rows.{stage_rows, stage_start}
use Rattle.codebook.specs.RowNumbers.{lsf_row_number}

-- there is no stage past the fourth
rows_none : (n : ℕ) → stage_rows (suc (suc (suc (suc (suc n))))) ≡ 0
rows_none n =
    let stage = suc (suc (suc (suc (suc n)))) in
    rw (ne_eqb stage 1 (λ e. omega arith), le-leb 2 stage (omega arith), lt-leb stage 4 (omega arith)) refl

-- a row of a stage is one of the 320
pub row_lt : (stage index : ℕ) → index < stage_rows stage → stage_start stage + index < 320
unfolding stage_start
row_lt zero index h = absurd (omega arith)
row_lt (suc zero) index h = omega arith
row_lt (suc (suc zero)) index h = omega arith
row_lt (suc (suc (suc zero))) index h = omega arith
row_lt (suc (suc (suc (suc zero)))) index h = omega arith
row_lt (suc (suc (suc (suc (suc n))))) index h = absurd (omega (arith, rows_none n))

-- a row that a stage has, by its number among all rows
pub row_number_lt : (stage index k : ℕ) → lsf_row_number stage index ≡ Some k → k < 320
row_number_lt stage index k e = go (ltb index (stage_rows stage)) refl e
  where
    go : (t : Bool) → ltb index (stage_rows stage) ≡ t → cond t (Some (stage_start stage + index)) None ≡ Some k → k < 320
    go true h e = let b : stage_start stage + index ≡ k = cc in rw (← b) (row_lt stage index (ltb-true _ _ h))
    go false h e = cc
