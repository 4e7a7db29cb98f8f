-- `pitch::class::classify` meets its contract. Assumes nothing.
use mathlib.Core.Path.{ap}
use borrow.Author.Tests.{lt-ltb, le-ltb}
use Rattle.pitch.specs.Pitch.{class_answer}
use Rattle.std.specs.Prelude.{Ok}
use Rattle.pitch.proofs.class.classify.Goals as goal

pub returns-then-code-lt128 : goal.returns-then-code-lt128
unfolding class_answer
returns-then-code-lt128 c = simp (lt-ltb _ 128 c.if-code-lt128.true) (ap Ok c.class_of.ensures)

pub returns-else-code-lt128 : goal.returns-else-code-lt128
unfolding class_answer
returns-else-code-lt128 c = simp (le-ltb _ 128 c.if-code-lt128.false)
