-- `spectrum::printing::write_printed` meets its contract: the values of what was read, as text, and what was read is
-- enough. Assumes nothing.
use mathlib.Core.Path.{◌≡◌, ap, ◌∙◌}
use lib.ListN.{length}
use native.Mathlib.Omega.{arith}
use borrow.Author.Rules.{rules}
use Rattle.spectrum.specs.Values.{of_frame}
use Rattle.spectrum.specs.Lines.{text}
use Rattle.spectrum.proofs.Inputs.{read_printed}
use Rattle.spectrum.proofs.printing.write_printed.Goals as goal

pub returns : goal.returns
returns c =
    let a = c.args in
    let sized : length a.input.now ≡ 8 = search rules in
    let w = c.write_text.ensures in record {
      printed = λ i f g hi hf hg.
          w.printed
          ∙ ap text (c.of_frame-spectrum.ensures ∙ (λ k. of_frame (c.front.ensures k) (c.front-2.ensures k) (c.front-3.ensures k)))
          ∙ read_printed a.input.now a.n a.lsf.now a.l a.magnitudes.now a.m sized (omega arith) (omega arith) i f g hi hf hg;
      size = w.size;
    }
