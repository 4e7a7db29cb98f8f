-- `quantiser::choice::Level::second_code` meets its contract: it quantises the raised level among the raised levels of the 32 indices. Assumes nothing.
use mathlib.Core.Path.{◌≡◌, ◌∙◌}
use Prim.Native.Nat.{ℕ, ◌+◌, ◌*◌}
use native.Mathlib.Omega.{arith}
use Rattle.gain.specs.Levels.{level}
use Rattle.quantiser.proofs.RaisedLevels.{nearest_raised}
use Rattle.quantiser.proofs.choice.Level.second_code.Goals as goal

pub returns-clause-equal : goal.returns-clause-equal
returns-clause-equal c =
    let h : (i : ℕ) → 20460 + i * 402 ≡ 18600 + level i = λ i. omega arith in
    c.quantise.ensures.equal ∙ nearest_raised c.args.self.value 18600 c.raised.result c.raised.ensures.equal level 20460 402 h 31
