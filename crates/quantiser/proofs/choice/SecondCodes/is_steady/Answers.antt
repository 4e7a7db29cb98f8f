-- `quantiser::choice::SecondCodes::is_steady` meets its contract: the raised level is as far from the raised mean as the level is from the mean.
-- Assumes nothing.
use mathlib.Core.Path.{◌≡◌, ◌∙◌}
use Prim.Native.Nat.{◌+◌}
use native.Mathlib.Omega.{arith}
use Rattle.gain.specs.Levels.{apart, mean, first_level}
use Rattle.quantiser.specs.Choice.{distance}
use Rattle.quantiser.proofs.RaisedLevels.{apart_raised}
use Rattle.quantiser.proofs.choice.SecondCodes.is_steady.Goals as goal
use Rattle.quantiser.proofs.choice.SecondCodes.is_steady.Goals.{After-level-mean}

-- the mean, which code 0 stands for
mean-is : (c : After-level-mean) → c.level-mean.result ≡ mean c.args.self.g2 c.args.self.q
unfolding first_level
mean-is c = c.level-mean.ensures

pub overflow_add-mean : goal.overflow_add-mean
overflow_add-mean c = omega (arith, mean-is (goal.at.overflow_add-mean c).After-level-mean)

pub returns : goal.returns
returns c =
    let s = c.args.self in
    let m : apart c.raised.result (18600 + c.level-mean.result) ≡ distance c.args.first.value (mean s.g2 s.q) =
    rw (mean-is (goal.at.returns c).After-level-mean) (apart_raised c.args.first.value 18600 c.raised.result c.raised.ensures.equal _) in
    simp (c.abs_diff.ensures, c.abs_diff-2.ensures ∙ m)
