-- `set_frames::frames::pack_all` meets its contract: after k turns k frames stand in front, and a refused set or the last one ends them. Assumes nothing.
use Rattle.set_frames.proofs.Turns.{SoFar}
use Rattle.set_frames.proofs.frames.pack_all.Given as goal

abbrev pub invariant-loop-k : goal.invariant-loop-k
invariant-loop-k l = SoFar l.order l.bytes l.initial.out l.sync l.k l.out
