-- `records::repeats::count_repeats` meets its contract: the count and the repeats still to come are all of them. Assumes nothing.
use mathlib.Core.Path.{◌≡◌}
use Prim.Native.Nat.{◌+◌, ◌≤◌}
use lib.ListN.{drop}
use Rattle.records.specs.Records.{repeats_in}
use Rattle.records.proofs.repeats.count_repeats.Given as goal

abbrev pub invariant-loop-kind : goal.invariant-loop-kind
invariant-loop-kind l = (l.repeats ≤ l.kind-index) × (l.repeats + repeats_in (drop l.kind-index l.fn.kinds) ≡ repeats_in l.fn.kinds)
