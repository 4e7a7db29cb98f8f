-- `reading::unpacking::read` meets its contract: an unvoiced frame goes its way. Assumes nothing.
use borrow.Author.Rules.{rules}
use Rattle.reading.proofs.ReadsWith.{read_is}
use Rattle.reading.proofs.unpacking.read.Goals as goal

pub returns : goal.returns
returns c = read_is _ _ _ c.read_with.ensures (λ p. search rules)
