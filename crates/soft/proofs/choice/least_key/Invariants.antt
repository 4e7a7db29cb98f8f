-- `soft::choice::least_key` meets its contract: after u turns it is the key of the least of the first u. Assumes nothing.
use Rattle.soft.specs.Least.{least_by}
use Rattle.soft.specs.Prices.{key_number}
use Rattle.soft.proofs.Keys.{key_in}
use mathlib.Core.Path.{◌≡◌}
use Rattle.soft.proofs.choice.least_key.Given as goal

abbrev pub invariant-loop-u : goal.invariant-loop-u
invariant-loop-u l = l.least ≡ key_number l.prices (least_by (key_in l.prices) l.u)
