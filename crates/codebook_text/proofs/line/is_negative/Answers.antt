-- `codebook_text::line::is_negative` meets its contract: it asks for the first byte. Assumes nothing.
use mathlib.Core.Path.{◌∙◌}
use Rattle.codebook_text.proofs.Digits.{minus_first}
use Rattle.codebook_text.proofs.line.is_negative.Goals as goal

pub returns : goal.returns
returns c = c.starts_with.ensures.value ∙ minus_first c.args.line.now
