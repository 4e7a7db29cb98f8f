-- `session_reader::steps::frames_before` meets its contract: three tests. Assumes nothing.
use native.Mathlib.Omega.{arith}
use Rattle.std.proofs.lemmas.Bool.Decides.{nat_tests}
use Rattle.session_reader.specs.Steps.{is_place}
use Rattle.session_reader.proofs.steps.frames_before.Goals as goal

pub returns-in_err-past-clause-equal : goal.returns-in_err-past-clause-equal
unfolding is_place
returns-in_err-past-clause-equal c = grind (arith, nat_tests)

pub returns-then-past-header-clause-equal : goal.returns-then-past-header-clause-equal
unfolding is_place
returns-then-past-header-clause-equal c = grind (arith, nat_tests)

pub returns-else-past-eq0-clause-equal : goal.returns-else-past-eq0-clause-equal
unfolding is_place
returns-else-past-eq0-clause-equal c = grind (arith, nat_tests)
