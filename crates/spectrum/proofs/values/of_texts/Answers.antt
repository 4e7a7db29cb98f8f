-- `spectrum::values::of_texts` meets its contract: both texts are read, and the first refusal counts. Assumes nothing.
use mathlib.Core.Path.{◌≡◌, ◌∙◌}
use lib.IntN.{pos}
use lib.ListN.{replicate, length-replicate}
use borrow.Author.Rules.{rules}
use Rattle.std.specs.Prelude.{Err}
use Rattle.spectrum.specs.Values.{of_codebooks}
use Rattle.spectrum.proofs.Answers.{lsf_text_refused, magnitudes_text_refused, texts_read}
use Rattle.spectrum.proofs.values.of_texts.Goals as goal

pub returns-in_err-read_lsf : goal.returns-in_err-read_lsf
returns-in_err-read_lsf c =
    let a = c.args in
    let r : c.from_residual.result ≡ Err c.in_err-read_lsf.field-0.0 = search rules in
    r ∙ lsf_text_refused a.set a.lsf.now a.magnitudes.now _ c.in_err-read_lsf.ensures.answer

pub returns-in_err-read_magnitudes : goal.returns-in_err-read_magnitudes
returns-in_err-read_magnitudes c =
    let a = c.args in
    let r : c.from_residual-in_err-read_magnitudes.result ≡ Err c.in_err-read_magnitudes.field-0.0 = search rules in
    r ∙ magnitudes_text_refused a.set a.lsf.now a.magnitudes.now _ c.in_ok-read_lsf.ensures.answer c.in_err-read_magnitudes.ensures.answer

pub returns : goal.returns
returns c =
    let a = c.args in
    c.of_codebooks.ensures
    ∙ (λ i. of_codebooks a.set (c.read_lsf.ensures.written i) (c.read_magnitudes.ensures.written i))
    ∙ texts_read a.set a.lsf.now a.magnitudes.now c.in_ok-read_lsf.ensures.answer c.in_ok-read_magnitudes.ensures.answer
    (replicate 3200 (pos 0)) (replicate 2560 (pos 0)) (length-replicate 3200 (pos 0)) (length-replicate 2560 (pos 0))
