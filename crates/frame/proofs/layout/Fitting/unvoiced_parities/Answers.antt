-- `frame::layout::Fitting::unvoiced_parities` meets its contract: the parity of each word is that of its data. Assumes nothing.
use Rattle.bits.proofs.Tests.{T_true}
use Rattle.sets.proofs.Ranges.{index_ranges}
use Rattle.frame.proofs.Numbers.{unvoiced_words_lem}
use Rattle.frame.proofs.layout.Fitting.unvoiced_parities.Goals as goal

pub returns : goal.returns
returns c = unvoiced_words_lem c.args.self.x (index_ranges c.args.self.x (T_true _ c.args.self.fits)).g1 _ _ _ _ c.parity_of.ensures c.parity_of-2.ensures c.parity_of-3.ensures c.parity_of-4.ensures
