-- `soft::choice::choose` meets its contract: the least key has the data that are taken, and their price the places that differ. Assumes nothing.
use mathlib.Core.Path.{◌≡◌, sym, ap, ◌∙◌}
use mathlib.Core.Bool.{Bool, cond, ◌&&◌}
use mathlib.Core.List.{List}
use Prim.Native.Nat.{ℕ, ◌/◌, ◌%◌}
use lib.Dec.{eqb, leb}
use lib.ListN.{get_or, take}
use Rattle.std.specs.Prelude.{None}
use Rattle.bits.specs.Bits.{bits}
use Rattle.bits.proofs.Digits.{bits_length}
use Rattle.hamming.specs.Word.{length_of, read_as}
use Rattle.hamming.proofs.Lengths.{length_least, length_most}
use Rattle.soft.specs.Choice.{choose}
use Rattle.soft.specs.Prices.{as_cheap, key_number, least_in}
use Rattle.soft.proofs.Outcomes.{outcome_is}
use Rattle.soft.proofs.choice.choose.Goals as goal
use Rattle.soft.proofs.choice.choose.Goals.{After-erases}

-- the outcome that the test gives is the choice
outcome : (c : After-erases)
    → let k = c.least_key-key.result in
    let a = c.args in
    let n = length_of a.length in
    cond c.erases.result None (read_as (k % 16) (get_or c.prices-prices.result (k % 16) 0 % 16)) ≡ choose n (take n a.confidences) (bits n a.word)
outcome c =
    let k = c.least_key-key.result in
    let a = c.args in
    let n = length_of a.length in
    let p = c.prices-prices.ensures in
    ap (λ (x : List ℕ). cond c.erases.result None (read_as (k % 16) (get_or x (k % 16) 0 % 16))) p.prices
    ∙ outcome_is n (length_least a.length) (length_most a.length) (take n a.confidences) (bits n a.word) (bits_length n a.word) p.bound k
    (c.least_key-key.ensures ∙ ap (λ (x : List ℕ). key_number x (least_in x)) p.prices) c.erases.result
    (c.erases.ensures ∙ ap (λ (x : List ℕ). eqb n 8 && leb 2 (as_cheap x (k / 16))) p.prices)

pub returns-then-erases : goal.returns-then-erases
returns-then-erases c =
    let k = c.least_key-key.result in
    ap (λ (t : Bool). cond t None (read_as (k % 16) (get_or c.prices-prices.result (k % 16) 0 % 16))) (sym c.if-erases.true) ∙ outcome (goal.at.returns-then-erases c).After-erases

pub returns : goal.returns
returns c =
    let e = c in
    let k = e.least_key-key.result in
    ap (λ (x : ℕ). read_as (k % 16) x) c.places_in.ensures
    ∙ ap (λ (j : ℕ). read_as (k % 16) (get_or e.prices-prices.result j 0 % 16)) e.from.ensures
    ∙ ap (λ (t : Bool). cond t None (read_as (k % 16) (get_or e.prices-prices.result (k % 16) 0 % 16))) (sym e.if-erases.false) ∙ outcome (goal.at.returns e).After-erases
