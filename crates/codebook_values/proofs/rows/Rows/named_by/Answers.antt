-- `codebook_values::rows::Rows::named_by` meets its contract: each row that is there is whole, and its entries fit. Assumes nothing.
use mathlib.Core.Path.{refl}
use Rattle.bits.proofs.Tests.{T_true}
use Rattle.sets.specs.Sets.{indices_fit}
use Rattle.sets.specs.declared.ParameterSet.TheVariants.{Unvoiced}
use Rattle.sets.proofs.Ranges.{set_ranges}
use Rattle.codebook.proofs.Answers.{lsf_row_length}
use Rattle.codebook_values.proofs.Answers.{rows_taken}
use Rattle.codebook_values.proofs.rows.Rows.named_by.Goals as goal

pub invariant_of-result : goal.invariant_of-result
invariant_of-result c =
    let k = c.args.codebook.now in
    let x = c.args.x in
    let whole = c.requires.whole in
    let range = set_ranges (Unvoiced x) (T_true (indices_fit x) c.requires.there) in
    let a = c.in_ok-stage_row.ensures in
    let b = c.in_ok-stage_row-2.ensures in
    let d = c.in_ok-stage_row-3.ensures in
    let e = c.in_ok-stage_row-4.ensures in
    record {
      ten = (
        rw a.numbers (lsf_row_length k 1 x.l1 whole range.l1),
        rw b.numbers (lsf_row_length k 2 x.l2 whole range.l2),
        rw d.numbers (lsf_row_length k 3 x.l3 whole range.l3),
        rw e.numbers (lsf_row_length k 4 x.l4 whole range.l4),
      );
      fit = rw (a.numbers, b.numbers, d.numbers, e.numbers, rows_taken _ a.refused, rows_taken _ b.refused, rows_taken _ d.refused, rows_taken _ e.refused) refl;
    }
