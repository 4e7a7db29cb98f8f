-- `codebook_text::line::all_digits` meets its contract: it tests the bytes one after the other. Assumes nothing.
use mathlib.Core.Path.{◌∙◌}
use borrow.Author.Tests.{tests}
use Rattle.std.proofs.Common.{rules}
use Rattle.std.proofs.lemmas.Iterator.{YieldsList-from_slice}
use Rattle.std.proofs.lemmas.Iterator.Search.{all_from_yields_List}
use Rattle.codebook_text.specs.Text.{is_digit}
use Rattle.codebook_text.proofs.Digits.{all_digits_is}
use Rattle.codebook_text.proofs.line.all_digits.Goals as goal

pub returns : goal.returns
returns c =
    let s = c.args.digits.now in
    all_from_yields_List is_digit _ _ _ c.all.ensures.ran (YieldsList-from_slice s cc) (λ x b q k. search (rules, tests)) ∙ all_digits_is s
