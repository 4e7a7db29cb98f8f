-- `reading::soft_unpacking::read_soft` meets its contract: an unvoiced frame goes its way. Assumes nothing.
use borrow.Author.Rules.{rules}
use Rattle.reading.proofs.ReadsWith.{soft_read_is}
use Rattle.reading.proofs.soft_unpacking.read_soft.Goals as goal

pub returns : goal.returns
returns c = soft_read_is _ _ _ _ c.read_with.ensures (λ p. search rules)
