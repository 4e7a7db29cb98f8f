-- `spectrum::values::of_codebooks` meets its contract: the first call that is refused counts. Assumes nothing.
use mathlib.Core.Path.{◌≡◌, ◌∙◌}
use borrow.Author.Rules.{rules}
use Rattle.std.specs.Prelude.{Ok}
use Rattle.codebook_values.specs.Values.{lsf_answer}
use Rattle.spectrum.proofs.Answers.{lsf_refused, magnitudes_refused, values_found}
use Rattle.spectrum.proofs.values.of_codebooks.Goals as goal

pub returns-in_err-lsf_values : goal.returns-in_err-lsf_values
returns-in_err-lsf_values c =
    let a = c.args in
    search rules ∙ lsf_refused a.set a.lsf.now a.magnitudes.now c.in_err-lsf_values.field-0.0 c.in_err-lsf_values.ensures.answer

pub returns-in_err-magnitudes : goal.returns-in_err-magnitudes
returns-in_err-magnitudes c =
    let a = c.args in
    let lsf_passed : Ok tt ≡ lsf_answer a.set a.lsf.now 10 = search rules in
    search rules ∙ magnitudes_refused a.set a.lsf.now a.magnitudes.now c.in_err-magnitudes.field-0.0 lsf_passed c.in_err-magnitudes.ensures.answer

pub returns : goal.returns
returns c =
    let a = c.args in
    values_found a.set a.lsf.now a.magnitudes.now c.in_ok-lsf_values.ensures.answer c.in_ok-magnitudes.ensures.answer _ _ c.lsf_values.ensures.written c.magnitudes.ensures.written
