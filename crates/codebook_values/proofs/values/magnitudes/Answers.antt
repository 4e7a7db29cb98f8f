-- `codebook_values::values::magnitudes` meets its contract: an unvoiced set has ten equal ones, a voiced set its row. Assumes nothing.
use mathlib.Core.Path.{◌≡◌, refl, sym, ap, ◌∙◌}
use mathlib.Core.List.{List, ◌++◌}
use lib.IntN.{ℤ}
use lib.ListN.{length, drop}
use borrow.Author.Rules.{rules}
use Rattle.std.specs.Prelude.{None, Some}
use Rattle.refusal.proofs.Refusals.{first_append}
use Rattle.sets.specs.Sets.{in_range}
use Rattle.codebook.specs.Rows.{magnitude_size}
use Rattle.codebook_values.specs.Values.{magnitudes_fit, magnitudes_refusal, magnitudes_answer, magnitudes_writes}
use Rattle.codebook_values.specs.Checks.{early_table, rows_table}
use Rattle.codebook_values.proofs.Answers.{early_passed}
use Rattle.codebook_values.proofs.values.magnitudes.Goals as goal
use Rattle.codebook_values.proofs.values.magnitudes.Goals.{After-from_residual, After-from_residual-in_err-row, In_ok-row}

-- refused before any row is looked at
early : (c : After-from_residual) → magnitudes_refusal c.args.set c.args.codebook.now (length c.args.out.now) ≡ Some c.in_err-check.field-0.0
early c =
    let a = c.args in
    let k = a.codebook.now in
    first_append (early_table (in_range a.set) (length k) magnitude_size (length a.out.now)) (rows_table (magnitudes_fit k a.set)) _ (sym c.in_err-check.ensures)

-- by the row
late : (c : After-from_residual-in_err-row) → magnitudes_refusal c.args.set c.args.codebook.now (length c.args.out.now) ≡ Some c.in_err-row.field-0.0
late c =
    let a = c.args in
    let k = a.codebook.now in
    let p = early_passed a.set k magnitude_size (length a.out.now) (sym c.in_ok-check.ensures) in
    p.rest (magnitudes_fit k a.set) ∙ sym c.in_err-row.ensures.refused

-- not at all
never : (c : In_ok-row) → magnitudes_refusal c.args.set c.args.codebook.now (length c.args.out.now) ≡ None
never c =
    let a = c.args in
    let k = a.codebook.now in
    let p = early_passed a.set k magnitude_size (length a.out.now) (sym c.in_ok-check.ensures) in
    p.rest (magnitudes_fit k a.set) ∙ sym c.in_ok-row.ensures.refused

pub returns-in_err-check-clause-answer : goal.returns-in_err-check-clause-answer
unfolding magnitudes_answer
returns-in_err-check-clause-answer c = rw (early c) (search rules)

pub returns-in_err-check-clause-written : goal.returns-in_err-check-clause-written
unfolding magnitudes_writes
returns-in_err-check-clause-written c = rw (early c) refl

pub returns-in_err-row-clause-answer : goal.returns-in_err-row-clause-answer
unfolding magnitudes_answer
returns-in_err-row-clause-answer c = rw (late c) (search rules)

pub returns-in_err-row-clause-written : goal.returns-in_err-row-clause-written
unfolding magnitudes_writes
returns-in_err-row-clause-written c = rw (late c) refl

pub returns-clause-answer : goal.returns-clause-answer
unfolding magnitudes_answer
returns-clause-answer c = rw (never (goal.at.returns-clause-answer c).In_ok-row) refl

pub returns-clause-written : goal.returns-clause-written
unfolding magnitudes_writes
returns-clause-written c =
    rw (never (goal.at.returns-clause-written c).In_ok-row) (ap (λ (s : List ℤ). s ++ drop 10 c.args.out.now) (c.copy_from_slice.ensures.after ∙ c.in_ok-row.ensures.numbers))
