-- `order::list::is_default` meets its contract: what is compared and what is left are the same where the lists are, throughout. Assumes nothing.
use mathlib.Core.Path.{◌≡◌, sym, ap, ap₂, ◌∙◌}
use mathlib.Core.Bool.{◌&&◌, and-true}
use mathlib.Core.List.{List, []}
use Prim.Native.Nat.{ℕ}
use native.Mathlib.Omega.{arith}
use lib.Dec.{eqb}
use lib.ListN.{length, drop, drop_of_length-le}
use Rattle.order.specs.Listing.{same_numbers}
use Rattle.order.proofs.Naming.{default_length}
use Rattle.order.proofs.Differing.{differ_next}
use Rattle.order.proofs.list.is_default.Goals as goal

pub loop-t-preserved : goal.loop-t-preserved
loop-t-preserved c =
    let L = c.loop-t in
    let n : length c.default_order-default.result ≡ 54 = ap (λ (l : List ℕ). length l) c.default_order-default.ensures ∙ default_length in
    differ_next L.differ c.args.list.now c.default_order-default.result L.t (omega arith) (omega arith) ∙ L.invariant

pub returns : goal.returns
returns c =
    let L = c.loop-t in
    let list = c.args.list.now in
    let default = c.default_order-default.result in
    let n : length default ≡ 54 = ap (λ (l : List ℕ). length l) c.default_order-default.ensures ∙ default_length in
    let d : drop L.t list ≡ [] = drop_of_length-le list {i = L.t} (omega arith) in
    let f : drop L.t default ≡ [] = drop_of_length-le default {i = L.t} (omega arith) in
    sym (and-true (eqb L.differ 0))
    ∙ ap₂ (λ (l k : List ℕ). eqb L.differ 0 && same_numbers l k) (sym d) (sym f)
    ∙ L.invariant
    ∙ ap (same_numbers list) c.default_order-default.ensures
