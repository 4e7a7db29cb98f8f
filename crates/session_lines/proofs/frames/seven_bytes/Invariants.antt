-- `session_lines::frames::seven_bytes` meets its contract: after i turns i bytes are made. Assumes nothing.
use mathlib.Core.Path.{◌≡◌}
use mathlib.Core.List.{◌++◌}
use lib.ListN.{take, drop, replicate}
use Rattle.session_lines.specs.Lines.{hex_bytes}
use Rattle.session_lines.proofs.frames.seven_bytes.Given as goal

abbrev pub invariant-loop-i : goal.invariant-loop-i
invariant-loop-i l = l.frame ≡ take l.i (hex_bytes l.digits) ++ drop l.i (replicate 7 0)
