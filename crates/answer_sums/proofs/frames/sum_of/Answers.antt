-- `answer_sums::frames::sum_of` meets its contract: what is added and what the other frames are answered make the whole sum, or both are too large. Assumes nothing.
use Rattle.std.proofs.Common.{◌≡◌, ℕ, ◌+◌, ◌≤◌, min, length, drop, List, arith}
use lib.ListN.{drop_of_length-le}
use Rattle.records.specs.declared.Record.{Record}
use Rattle.receiver.specs.declared.Received.{Received}
use Rattle.answer_sums.specs.Sums.{sum_from}
use Rattle.answer_sums.proofs.frames.sum_of.Goals as goal

-- at the end no frames are left
all : (step : Record → List ℕ → Received) (frames : List (List ℕ)) (rec : Record) (i sum whole m : ℕ) → length frames ≤ i
    → min (sum + sum_from step rec (drop i frames)) m ≡ whole → sum ≤ m → sum ≡ whole
all step frames rec i sum whole m h s l =
    let t = rw (drop_of_length-le frames {i = i} h) at s in
    omega (arith, t)

pub returns-clause-sum : goal.returns-clause-sum
returns-clause-sum g c = all _ c.args.frames.now _ _ _ _ _ c.loop-frame-test.false c.loop-frame.invariant.0 c.loop-frame.invariant.2
