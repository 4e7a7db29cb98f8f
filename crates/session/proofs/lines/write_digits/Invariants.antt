-- `session::lines::write_digits` meets its contract: after i turns i bytes are written. Assumes nothing.
use Prim.Native.Nat.{◌+◌, ◌*◌}
use mathlib.Core.Path.{◌≡◌}
use lib.ListN.{take}
use Rattle.text.specs.Placing.{Put}
use Rattle.session.specs.Format.{hex_text}
use Rattle.session.proofs.lines.write_digits.Given as goal

abbrev pub invariant-loop-b : goal.invariant-loop-b
invariant-loop-b l = (l.end ≡ l.at + 2 * l.b-index) × Put l.initial.out l.at (hex_text (take l.b-index l.frame)) l.out l.end
