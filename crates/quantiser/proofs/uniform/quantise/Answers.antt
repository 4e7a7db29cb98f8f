-- `quantiser::uniform::quantise` meets its contract: the index reached so far is the nearest of those passed. It goes up above a threshold,
-- and at or below one no higher index is nearer. Assumes nothing.
use mathlib.Core.Path.{◌≡◌, sym}
use Prim.Native.Nat.{◌+◌, ◌-◌}
use native.Mathlib.Nat.{suc-mul}
use native.Mathlib.Numerals.{add-one}
use native.Mathlib.Omega.{arith}
use Rattle.quantiser.specs.Choice.{nearest}
use Rattle.quantiser.proofs.Thresholds.{index_up, index_stays}
use Rattle.quantiser.proofs.uniform.quantise.Goals as goal

pub loop-i-init : goal.loop-i-init
unfolding nearest
loop-i-init c = omega arith

pub returns-then-value-level-clause-equal : goal.returns-then-value-level-clause-equal
returns-then-value-level-clause-equal c =
    let a = c.args in
    let at = c.loop-i in
    let e : (a.last - at.i) + at.i ≡ a.last = omega arith in
    sym (rw e at (index_stays a.base a.step a.value (omega arith) at.i (a.last - at.i) at.invariant.1 (omega arith)))

pub loop-i-preserved : goal.loop-i-preserved
loop-i-preserved c =
    let a = c.args in
    let at = c.loop-i in
    let n = index_up a.base a.step a.value (omega arith) at.i at.invariant.1 (omega arith) in
    (rw add-one (omega (arith, suc-mul at.i a.step)), rw add-one n)
