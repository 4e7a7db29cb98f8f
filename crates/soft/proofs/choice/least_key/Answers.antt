-- `soft::choice::least_key` meets its contract: after u turns it is the key of the least of the first u. Assumes nothing.
use mathlib.Core.Path.{sym, ap₂, ◌∙◌}
use Prim.Native.Nat.{min}
use Rattle.soft.specs.Least.{least_by}
use Rattle.soft.proofs.Keys.{number_more}
use Rattle.soft.proofs.choice.least_key.Goals as goal

pub loop-u-init : goal.loop-u-init
unfolding least_by
loop-u-init c = c.key_of-least.ensures

pub loop-u-preserved : goal.loop-u-preserved
loop-u-preserved c =
    let L = c.loop-u in
    c.min-least.ensures ∙ ap₂ min L.invariant c.key_of.ensures ∙ sym (number_more c.args.prices.now L.u c.loop-u-test.true)
