-- `session::lines::write_lines` meets its contract: after k turns the lines of k frames are written. Assumes nothing.
use Prim.Native.Nat.{◌+◌, ◌*◌}
use mathlib.Core.Path.{◌≡◌}
use lib.ListN.{take}
use Rattle.text.specs.Placing.{Put}
use Rattle.session.specs.Format.{frame_lines}
use Rattle.session.proofs.lines.write_lines.Given as goal

abbrev pub invariant-loop-frame : goal.invariant-loop-frame
invariant-loop-frame l = (l.end ≡ l.at + 17 * l.frame-index) × Put l.initial.out l.at (frame_lines (take l.frame-index l.frames)) l.out l.end
