-- `codebook::shape::Shape::fits` meets its contract: it tests the entries one after the other. Assumes nothing.
use mathlib.Core.Path.{◌∙◌}
use borrow.Author.Tests.{tests}
use Rattle.std.proofs.Common.{rules}
use Rattle.std.proofs.lemmas.Iterator.{YieldsList-from_slice}
use Rattle.std.proofs.lemmas.Iterator.Search.{all_from_yields_List}
use Rattle.codebook.specs.Rows.{between}
use Rattle.codebook.proofs.Entries.{all_fit_is}
use Rattle.codebook.proofs.shape.Shape.fits.Goals as goal

pub returns : goal.returns
returns c =
    let a = c.args in
    let fits = between a.self.least a.self.most in
    all_from_yields_List fits _ _ _ c.all.ensures.ran (YieldsList-from_slice a.row.now cc) (λ x b q k. search (rules, tests)) ∙ all_fit_is fits a.row.now
