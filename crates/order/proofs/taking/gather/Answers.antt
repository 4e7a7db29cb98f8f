-- `order::taking::gather` meets its contract: the moves bring each logical bit from its place. Assumes nothing.
use Rattle.order.proofs.DefaultMoves.{taken_is}
use Rattle.order.proofs.taking.gather.Goals as goal

pub returns : goal.returns
returns c = taken_is c.args.placed
