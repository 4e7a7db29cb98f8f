-- `soft::prices::sums_of` meets its contract: each length has its part of the eight confidences. Assumes nothing.
use mathlib.Core.List.{[], ◌∷◌}
use native.Mathlib.Omega.{arith}
use lib.ListN.{get_or}
use Rattle.soft.specs.Prices.{price}
use Rattle.soft.proofs.Sums.{sums_rest, eight_entries}
use Rattle.soft.proofs.prices.sums_of.Goals as goal

pub returns-in-Six : goal.returns-in-Six
returns-in-Six c =
    let q = c.args.q in
    rw (c.in-Six.is, eight_entries q (omega arith)) (record {
      «data» = sums_rest (price 0) (price (get_or q 0 0) ∷ price (get_or q 1 0) ∷ price (get_or q 2 0) ∷ []) c.sums.result c.sums.ensures;
      parity = sums_rest (price 0) (price (get_or q 3 0) ∷ price (get_or q 4 0) ∷ price (get_or q 5 0) ∷ []) c.sums-in-Six.result c.sums-in-Six.ensures;
    })

pub returns-in-Seven : goal.returns-in-Seven
returns-in-Seven c =
    let q = c.args.q in
    rw (c.in-Seven.is, eight_entries q (omega arith)) (record {
      «data» = c.sums-in-Seven.ensures;
      parity = sums_rest (price 0) (price (get_or q 4 0) ∷ price (get_or q 5 0) ∷ price (get_or q 6 0) ∷ []) c.sums-in-Seven-2.result c.sums-in-Seven-2.ensures;
    })

pub returns-in-Eight : goal.returns-in-Eight
returns-in-Eight c =
    let q = c.args.q in
    rw (c.in-Eight.is, eight_entries q (omega arith)) (record { «data» = c.sums-in-Eight.ensures; parity = c.sums-in-Eight-2.ensures })
