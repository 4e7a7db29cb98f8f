-- `codebook_values::values::lsf_values` meets its contract: the rows of a set in range are added, raised and lowered. Assumes nothing.
use mathlib.Core.Path.{◌≡◌, refl, sym, ap, ◌∙◌}
use mathlib.Core.List.{List, ◌++◌}
use lib.ListN.{length, take, drop}
use lib.Seq.{take_at, drop_at}
use lib.IntN.{ℤ}
use borrow.Author.Rules.{rules}
use Rattle.std.specs.Prelude.{None, Some}
use Rattle.refusal.proofs.Refusals.{first_append}
use Rattle.sets.specs.Sets.{indices_in, in_range}
use Rattle.codebook.specs.Rows.{lsf_size}
use Rattle.codebook_values.specs.Values.{spacing, raised, highest, lowered, rows_fit, of_rows, lsf_values, lsf_refusal, lsf_answer, lsf_writes}
use Rattle.codebook_values.specs.Checks.{early_table, rows_table}
use Rattle.codebook_values.specs.Sums.{sums}
use Rattle.codebook_values.proofs.Answers.{early_passed}
use Rattle.codebook_values.proofs.RaisedTurns.{raised_length}
use Rattle.codebook_values.proofs.Spaced.{raised_spaced}
use Rattle.codebook_values.proofs.Sums.{sums_length}
use Rattle.codebook_values.proofs.values.lsf_values.Goals as goal
use Rattle.codebook_values.proofs.values.lsf_values.Goals.{After-from_residual, After-from_residual-in_err-rows, After-write_raised}

-- refused before any row is looked at
early : (c : After-from_residual) → lsf_refusal c.args.set c.args.codebook.now (length c.args.out.now) ≡ Some c.in_err-check.field-0.0
early c =
    let a = c.args in
    let k = a.codebook.now in
    first_append (early_table (in_range a.set) (length k) lsf_size (length a.out.now)) (rows_table (of_rows rows_fit k (indices_in a.set))) _ (sym c.in_err-check.ensures)

-- by a row
late : (c : After-from_residual-in_err-rows) → lsf_refusal c.args.set c.args.codebook.now (length c.args.out.now) ≡ Some c.in_err-rows.field-0.0
late c =
    let a = c.args in
    let k = a.codebook.now in
    let p = early_passed a.set k lsf_size (length a.out.now) (sym c.in_ok-check.ensures) in
    p.rest (of_rows rows_fit k (indices_in a.set)) ∙ sym (rw c.indices_of.ensures at c.in_err-rows.ensures.refused)

-- not at all
never : (c : After-write_raised) → lsf_refusal c.args.set c.args.codebook.now (length c.args.out.now) ≡ None
never c =
    let a = c.args in
    let k = a.codebook.now in
    let p = early_passed a.set k lsf_size (length a.out.now) (sym c.in_ok-check.ensures) in
    p.rest (of_rows rows_fit k (indices_in a.set)) ∙ sym (rw c.indices_of.ensures at c.in_ok-rows.ensures.refused)

-- there are ten raised sums, and they are what is found in front of the output
front_length : (c : After-write_raised) → length (raised spacing (sums c.in_ok-rows.rows)) ≡ 10
front_length c = raised_length spacing _ ∙ sums_length c.in_ok-rows.rows

front : (c : After-write_raised) → take 10 c.write_raised.new.out ≡ raised spacing (sums c.in_ok-rows.rows)
front c = ap (take 10) c.write_raised.ensures ∙ take_at _ _ 10 (front_length c)

-- with the rest of it behind them
rest : (c : After-write_raised) → drop 10 c.write_raised.new.out ≡ drop 10 c.args.out.now
rest c = ap (drop 10) c.write_raised.ensures ∙ drop_at _ (drop 10 c.args.out.now) 10 (front_length c)

pub returns-in_err-check-clause-answer : goal.returns-in_err-check-clause-answer
unfolding lsf_answer
returns-in_err-check-clause-answer c = rw (early c) (search rules)

pub returns-in_err-check-clause-written : goal.returns-in_err-check-clause-written
unfolding lsf_writes
returns-in_err-check-clause-written c = rw (early c) refl

pub returns-in_err-rows-clause-answer : goal.returns-in_err-rows-clause-answer
unfolding lsf_answer
returns-in_err-rows-clause-answer c = rw (late c) (search rules)

pub returns-in_err-rows-clause-written : goal.returns-in_err-rows-clause-written
unfolding lsf_writes
returns-in_err-rows-clause-written c = rw (late c) refl

pub lower-requires-clause-spaced : goal.lower-requires-clause-spaced
lower-requires-clause-spaced c = rw (front (goal.at.lower-requires-clause-spaced c).After-write_raised) (raised_spaced spacing _)

pub returns-clause-answer : goal.returns-clause-answer
unfolding lsf_answer
returns-clause-answer c = rw (never (goal.at.returns-clause-answer c).After-write_raised) refl

pub returns-clause-written : goal.returns-clause-written
unfolding lsf_values lsf_writes
returns-clause-written c =
    let w = (goal.at.returns-clause-written c).After-write_raised in
    let e = rw c.indices_of.ensures at c.in_ok-rows.ensures.rows in
    rw (never w) (c.lower.ensures ∙ (λ i. lowered highest (front w i) ++ rest w i) ∙ ap (λ (s : List ℤ). lowered highest (raised spacing s) ++ drop 10 c.args.out.now) e)
