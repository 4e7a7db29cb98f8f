-- `from_session::frames::copy_frames` meets its contract: after k turns k frames stand in front, and a step without a frame ends them. Assumes nothing.
use Rattle.from_session.proofs.Turns.{SoFar}
use Rattle.from_session.proofs.frames.copy_frames.Given as goal

abbrev pub invariant-loop-k : goal.invariant-loop-k
invariant-loop-k l = SoFar l.text l.initial.out l.at l.k l.out
