-- `order::list::is_default` meets its contract: what is compared and what is left are the same where the lists are, throughout. Assumes nothing.
use mathlib.Core.Path.{◌≡◌}
use mathlib.Core.Bool.{◌&&◌}
use lib.Dec.{eqb}
use lib.ListN.{drop}
use Rattle.order.specs.Listing.{same_numbers}
use Rattle.order.proofs.list.is_default.Given as goal

abbrev pub invariant-loop-t : goal.invariant-loop-t
invariant-loop-t l = (eqb l.differ 0 && same_numbers (drop l.t l.list) (drop l.t l.default)) ≡ same_numbers l.list l.default
