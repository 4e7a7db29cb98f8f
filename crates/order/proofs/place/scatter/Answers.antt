-- `order::place::scatter` meets its contract: the moves put each logical bit at its place. Assumes nothing.
use Rattle.order.proofs.DefaultPlaces.{put_is}
use Rattle.order.proofs.place.scatter.Goals as goal

pub returns : goal.returns
returns c = put_is c.args.bits
