-- `order::soft_taking::default_confidences` meets its contract: before each turn the confidences of the bits before it are known. Assumes nothing.
use mathlib.Core.Path.{◌≡◌, subst}
use Prim.Native.Nat.{ℕ, ◌+◌, ◌*◌}
use native.Mathlib.Omega.{arith}
use Rattle.order.specs.Order.{default_order}
use Rattle.order.specs.SoftTaking.{confidence_of}
use Rattle.order.proofs.SoftTaking.{KnownTo, default_confidence, known_more, known_all}
use Rattle.order.proofs.soft_taking.default_confidences.Goals as goal

pub loop-i-preserved : goal.loop-i-preserved
loop-i-preserved c =
    let L = c.loop-i in
    let confidences = c.args.confidences.now in
    let n : ℕ = 9 * c.loop-nine.nine + L.i in
    known_more (confidence_of default_order confidences) L.found n _ _ (omega arith) (omega arith) (default_confidence confidences n (omega arith)) L.invariant

pub returns : goal.returns
returns c =
    let L = c.loop-nine in
    let q : ℕ → ℕ = confidence_of default_order c.args.confidences.now in
    let e : 9 * L.nine ≡ 54 = omega arith in
    known_all q L.found (subst (λ (n : ℕ). KnownTo q n L.found) e L.invariant)
