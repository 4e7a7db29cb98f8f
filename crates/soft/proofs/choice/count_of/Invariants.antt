-- `soft::choice::count_of` meets its contract: the count and the code words of this cost still to come are all of them. Assumes nothing.
use mathlib.Core.Path.{◌≡◌}
use Prim.Native.Nat.{ℕ, ◌+◌, ◌/◌, ◌≤◌}
use mathlib.Core.Bool.{Bool}
use lib.Dec.{eqb}
use lib.ListN.{drop}
use Rattle.std.specs.List.{count_by}
use Rattle.soft.proofs.choice.count_of.Given as goal

abbrev pub invariant-loop-price : goal.invariant-loop-price
invariant-loop-price l =
    let has : ℕ → Bool = λ price. eqb (price / 16) l.cost in
    (l.count ≤ l.price-index) × (l.count + count_by has (drop l.price-index l.prices) ≡ count_by has l.prices)
