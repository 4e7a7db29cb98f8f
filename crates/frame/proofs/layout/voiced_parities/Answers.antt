-- `frame::layout::voiced_parities` meets its contract: the Fourier index is cut into the parity places. Assumes nothing.
use Rattle.bits.proofs.Tests.{T_true}
use Rattle.sets.proofs.Ranges.{voicing_ranges}
use Rattle.frame.proofs.Numbers.{voiced_words_lem}
use Rattle.frame.proofs.layout.voiced_parities.Goals as goal

pub returns : goal.returns
returns c = λ x. voiced_words_lem x c.args.v (voicing_ranges c.args.v (T_true _ c.requires)).aperiodic
