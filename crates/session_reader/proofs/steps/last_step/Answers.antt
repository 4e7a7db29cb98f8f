-- `session_reader::steps::last_step` meets its contract. Assumes nothing.
use native.Mathlib.Omega.{arith}
use Rattle.std.proofs.lemmas.Bool.Decides.{nat_tests}
use Rattle.session_reader.specs.Steps.{last_step}
use Rattle.session_reader.proofs.steps.last_step.Goals as goal

pub returns-then-text-place : goal.returns-then-text-place
unfolding last_step
returns-then-text-place c = grind (arith, nat_tests)

pub returns : goal.returns
unfolding last_step
returns c = grind (arith, nat_tests)
