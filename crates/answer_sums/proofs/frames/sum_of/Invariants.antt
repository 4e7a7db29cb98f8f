-- `answer_sums::frames::sum_of` meets its contract: what is added and what the other frames are answered make the whole sum, or both are too large. Assumes nothing.
use Rattle.std.proofs.Common.{◌≡◌, ◌+◌, ◌*◌, ◌≤◌, min, drop}
use Rattle.records.specs.Records.{fresh}
use Rattle.answer_sums.specs.Sums.{sum_from}
use Rattle.answer_sums.proofs.frames.sum_of.Given as goal

abbrev pub invariant-loop-frame : goal.invariant-loop-frame
invariant-loop-frame g l =
    (min (l.sum + sum_from (g.R.Receive.received l.receiver) l.rec (drop l.frame-index l.frames)) 18446744073709551615
    ≡ min (sum_from (g.R.Receive.received l.receiver) fresh l.frames) 18446744073709551615)
    × (l.sum ≤ 10000000000 * l.frame-index)
    × (l.sum ≤ 18446744073709551615)
