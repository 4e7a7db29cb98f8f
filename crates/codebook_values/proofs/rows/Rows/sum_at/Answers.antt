-- `codebook_values::rows::Rows::sum_at` meets its contract: the entries of rows that fit are within the limit. Assumes nothing.
use mathlib.Core.Path.{◌≡◌, sym, ◌∙◌}
use mathlib.Core.Bool.{true}
use native.Mathlib.Omega.{arith}
use lib.IntN.{pos}
use lib.ListN.{get_or}
use Rattle.codebook.specs.Rows.{lsf_fits, all_fit}
use Rattle.codebook.proofs.Entries.{fit_at}
use Rattle.codebook_values.proofs.FourRows.{and_four}
use Rattle.codebook_values.proofs.Sizes.{lsf_back, number_back}
use Rattle.codebook_values.proofs.Sums.{four_at}
use Rattle.codebook_values.proofs.rows.Rows.sum_at.Goals as goal
use Rattle.codebook_values.proofs.rows.Rows.sum_at.Goals.{Start}

-- each of the four entries is within the limit
fit : (s : Start) →
    let rows = s.args.self.now in
    let k = s.args.k in
    (lsf_fits (get_or rows.first.now k (pos 0)) ≡ true) × (lsf_fits (get_or rows.second.now k (pos 0)) ≡ true)
    × (lsf_fits (get_or rows.third.now k (pos 0)) ≡ true) × (lsf_fits (get_or rows.fourth.now k (pos 0)) ≡ true)
fit s =
    let rows = s.args.self.now in
    let k = s.args.k in
    let e = and_four (all_fit lsf_fits rows.first.now) (all_fit lsf_fits rows.second.now) (all_fit lsf_fits rows.third.now) (all_fit lsf_fits rows.fourth.now) rows.fit in (
      fit_at lsf_fits rows.first.now k (omega arith) e.0,
      fit_at lsf_fits rows.second.now k (omega arith) e.1,
      fit_at lsf_fits rows.third.now k (omega arith) e.2,
      fit_at lsf_fits rows.fourth.now k (omega arith) e.3,
    )

pub four_sum-requires : goal.four_sum-requires
four_sum-requires c =
    let s = (goal.at.four_sum-requires c).Start in
    let f = fit s in
    let rows = s.args.self.now in
    let k = s.args.k in
    simp (lsf_back (get_or rows.first.now k (pos 0)) f.0, lsf_back (get_or rows.second.now k (pos 0)) f.1, lsf_back (get_or rows.third.now k (pos 0)) f.2, lsf_back (get_or rows.fourth.now k (pos 0)) f.3) f

pub returns-clause-equal : goal.returns-clause-equal
returns-clause-equal c =
    let s = (goal.at.returns-clause-equal c).Start in
    let rows = s.args.self.now in
    let k = s.args.k in
    let f = fit s in
    let e =
    simp (lsf_back (get_or rows.first.now k (pos 0)) f.0, lsf_back (get_or rows.second.now k (pos 0)) f.1, lsf_back (get_or rows.third.now k (pos 0)) f.2, lsf_back (get_or rows.fourth.now k (pos 0)) f.3) at c.four_sum.ensures.equal in
    (simp (number_back c.four_sum.result c.four_sum.type_inv) e) ∙ sym (four_at rows.first.now rows.second.now rows.third.now rows.fourth.now s.args.k (omega arith) (omega arith) (omega arith) (omega arith))
