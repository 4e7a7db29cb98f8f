-- `session_lines::header::count_in` meets its contract: the value so far, and the digits to come. Assumes nothing.
use mathlib.Core.Path.{◌≡◌}
use Prim.Native.Nat.{◌+◌, ◌≤◌}
use lib.ListN.{take, drop}
use Rattle.session_lines.specs.Lines.{digits_value}
use Rattle.session_lines.specs.Scans.{digits_in}
use Rattle.session_lines.proofs.header.count_in.Given as goal

abbrev pub invariant-loop-i : goal.invariant-loop-i
invariant-loop-i l = record {
  few : l.i ≤ 4;
  value : digits_value 0 (take 4 l.text) ≡ digits_value l.value (drop l.i (take 4 l.text));
  digits : digits_in (take 4 l.text) ≡ l.i + digits_in (drop l.i (take 4 l.text));
}
