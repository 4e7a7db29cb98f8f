-- `quantiser::choice::SecondCodes::first_code` meets its contract: unless the frame is steady, the raised level is quantised among the raised levels
-- of the seven codes. Assumes nothing.
use mathlib.Core.Path.{◌≡◌, sym, ap, ◌∙◌}
use Prim.Native.Nat.{ℕ, ◌+◌, ◌-◌, ◌*◌}
use native.Mathlib.Omega.{arith}
use Rattle.gain.specs.Levels.{apart}
use Rattle.quantiser.specs.Choice.{seven_levels, chosen_g1}
use Rattle.gain.proofs.FirstLevel.{first_lowest, first_next, first_rises}
use Rattle.quantiser.proofs.RaisedLevels.{nearest_raised}
use Rattle.quantiser.proofs.choice.SecondCodes.first_code.Goals as goal
use Rattle.quantiser.proofs.choice.SecondCodes.first_code.Goals.{After-level}

-- the level of code 2 is one step above that of code 1
step_is : (c : After-level) → c.level.result ≡ c.level-lowest.result + (67 * apart c.args.self.g2 c.args.self.q + 372)
step_is c = omega (arith, first_next c.args.self.g2 c.args.self.q 0, c.level.ensures, c.level-lowest.ensures)

pub returns-then-is_steady : goal.returns-then-is_steady
unfolding chosen_g1
returns-then-is_steady c = simp (sym c.is_steady.ensures ∙ c.if-is_steady.true)

pub overflow_sub-step : goal.overflow_sub-step
overflow_sub-step c = omega (arith, step_is c)

pub overflow_add-lowest : goal.overflow_add-lowest
overflow_add-lowest c = omega (arith, first_lowest c.args.self.g2 c.args.self.q)

pub quantise-requires : goal.quantise-requires
quantise-requires c = omega (arith, first_lowest c.args.self.g2 c.args.self.q, step_is (goal.at.quantise-requires c).After-level)

pub returns : goal.returns
unfolding chosen_g1
returns c =
    let g2 = c.args.self.g2 in
    let q = c.args.self.q in
    let base = c.level-lowest.result in
    let step = c.level.result - base in
    let e : step ≡ 67 * apart g2 q + 372 = omega (arith, step_is (goal.at.returns c).After-level) in
    let h : (i : ℕ) → 18600 + base + i * step ≡ 18600 + seven_levels g2 q i = λ i. rw (e, c.level-lowest.ensures, first_rises g2 q i) (omega arith) in
    let n = nearest_raised c.args.first.value 18600 c.raised.result c.raised.ensures.equal (seven_levels g2 q) (18600 + base) step h 6 in
    simp (sym c.is_steady.ensures ∙ c.if-is_steady.false) (ap (λ (i : ℕ). 1 + i) (c.quantise.ensures.equal ∙ n))
