-- `gain::levels::SecondCodes::first` meets its contract: the steps above the smaller level stay far below the end of the type. Assumes nothing.
use Prim.Native.Nat.{◌-◌}
use native.Mathlib.Nat.{mul-le-mul}
use native.Mathlib.Omega.{arith}
use Rattle.gain.specs.Levels.{first_level}
use Rattle.gain.proofs.FirstLevel.{first_is}
use Rattle.gain.proofs.levels.SecondCodes.first.Goals as goal

pub returns-then-code-eq0 : goal.returns-then-code-eq0
unfolding first_level
returns-then-code-eq0 c = simp (c.if-code-eq0.true, c.mean.ensures)

-- the steps of any code above the smaller level are at most 255 times 20000
pub overflow_add-result : goal.overflow_add-result
overflow_add-result c = omega (arith, mul-le-mul {n₁ = c.from.result - 1} {m₁ = c.step.result} {n₂ = 255} {m₂ = 20000} (omega arith) (omega arith))

pub returns : goal.returns
returns c = simp (first_is c.args.self.g2 c.args.self.q c.args.code c.if-code-eq0.false, c.smaller.ensures, c.step.ensures, c.from.ensures)
