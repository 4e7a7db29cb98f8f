-- `order::taking::bit_named` meets its contract: the mask takes the first place alone, and a shift moves it. Assumes nothing.
use Rattle.order.proofs.Named.{first_named, named_lt}
use Rattle.order.proofs.taking.bit_named.Goals as goal

pub returns : goal.returns
returns c = let a = c.args in record { bit = first_named a.places a.j c.requires; bound = named_lt a.places a.j c.requires }
