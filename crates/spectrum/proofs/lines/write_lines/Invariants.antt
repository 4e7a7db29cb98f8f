-- `spectrum::lines::write_lines` meets its contract: after i turns the lines of the first i numbers stand there. Assumes nothing.
use mathlib.Core.Path.{◌≡◌}
use Prim.Native.Nat.{◌+◌, ◌*◌, ◌≤◌}
use lib.ListN.{length, take}
use Rattle.spectrum.specs.Lines.{lines}
use Rattle.text.specs.Placing.{Appended}
use Rattle.spectrum.proofs.lines.write_lines.Given as goal

abbrev pub invariant-loop-number : goal.invariant-loop-number
invariant-loop-number l = record {
  ten : length l.numbers ≡ 10;
  room : length l.out ≡ length l.initial.out;
  bound : l.end ≤ l.at + 22 * l.number-index;
  lines : Appended l.initial.out l.at (lines (take l.number-index l.numbers)) l.out l.end;
}
