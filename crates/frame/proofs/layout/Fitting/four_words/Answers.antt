-- `frame::layout::Fitting::four_words` meets its contract: the parts are joined from the first on. Assumes nothing.
use mathlib.Core.Path.{sym, ◌∙◌}
use Rattle.bits.proofs.Tests.{T_true}
use Rattle.sets.proofs.Ranges.{index_ranges}
use Rattle.frame.proofs.Numbers.{words_value}
use Rattle.frame.proofs.layout.Fitting.four_words.Goals as goal

pub returns-clause-number : goal.returns-clause-number
returns-clause-number c =
    let a = c.args in
    let p = a.parities in
    let r = index_ranges a.self.x (T_true _ a.self.fits) in
    c.joined.ensures.number ∙ sym (words_value a.self.x r.l1 r.g2 r.g1 p.a p.b p.c p.d p.fits.0 p.fits.1 p.fits.2 p.fits.3)
