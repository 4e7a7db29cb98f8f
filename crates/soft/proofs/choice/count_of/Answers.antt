-- `soft::choice::count_of` meets its contract: at the end no code words are to come, and the count is of all of them. Assumes nothing.
use mathlib.Core.Path.{◌≡◌, sym, ◌∙◌}
use mathlib.Core.Bool.{Bool}
use mathlib.Core.List.{List}
use Prim.Native.Nat.{ℕ, ◌+◌, ◌/◌, ◌≤◌}
use native.Mathlib.Omega.{arith}
use lib.Dec.{eqb}
use lib.ListN.{length, drop, drop_of_length-le}
use Rattle.std.specs.List.{count_by}
use Rattle.soft.proofs.Counts.{ones_entries}
use Rattle.soft.proofs.choice.count_of.Goals as goal

all : (has : ℕ → Bool) (xs : List ℕ) (i n : ℕ) → length xs ≤ i → n + count_by has (drop i xs) ≡ count_by has xs → n ≡ count_by has xs
all has xs i n h e = let t = rw (drop_of_length-le xs {i = i} h) at e in omega (arith, t)

pub returns : goal.returns
returns c =
    let a = c.args in
    let has : ℕ → Bool = λ price. eqb (price / 16) a.cost in
    all has a.prices.now c.loop-price.price-index _ (omega (arith, c.loop-price-test.false)) c.loop-price.invariant.1 ∙ sym (ones_entries has a.prices.now 16 (omega arith))
