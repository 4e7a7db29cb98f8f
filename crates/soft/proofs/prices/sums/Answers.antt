-- `soft::prices::sums` meets its contract: each entry is written out. Assumes nothing.
use mathlib.Core.Path.{subst}
use mathlib.Core.List.{List, [], ◌∷◌}
use Prim.Native.Nat.{ℕ}
use Rattle.soft.specs.Prices.{SumsOf}
use Rattle.soft.proofs.Sums.{four_sums, sums_of}
use Rattle.soft.proofs.prices.sums.Goals as goal

pub returns : goal.returns
returns c =
    let d = c.price-d in
    let c' = c.price-c in
    let b = c.price-b in
    let a = c.price-a in
    subst (λ (ps : List ℕ). SumsOf ps (four_sums a.result b.result c'.result d.result))
    (λ i. a.ensures.price i ∷ b.ensures.price i ∷ c'.ensures.price i ∷ d.ensures.price i ∷ [])
    (sums_of a.result b.result c'.result d.result a.ensures.bound b.ensures.bound c'.ensures.bound d.ensures.bound)
