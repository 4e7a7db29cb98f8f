-- `quantiser::uniform::quantise` meets its contract: the index reached so far is the nearest of those passed. It goes up above a threshold,
-- and at or below one no higher index is nearer. Assumes nothing.
use mathlib.Core.Path.{◌≡◌}
use Prim.Native.Nat.{◌+◌, ◌*◌}
use Rattle.quantiser.proofs.Thresholds.{index}
use Rattle.quantiser.proofs.uniform.quantise.Given as goal

abbrev pub invariant-loop-i : goal.invariant-loop-i
invariant-loop-i l = (l.level ≡ l.base + l.i * l.step) × (index l.base l.step l.value l.i ≡ l.i)
