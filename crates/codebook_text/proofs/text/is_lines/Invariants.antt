-- `codebook_text::text::is_lines` meets its contract: the lines passed are good, so the test goes by those to come. Assumes nothing.
use mathlib.Core.Path.{◌≡◌}
use Prim.Native.Nat.{◌-◌, ◌≤◌}
use Rattle.codebook_text.specs.Text.{is_lines}
use Rattle.codebook_text.proofs.text.is_lines.Given as goal

abbrev pub invariant-loop : goal.invariant-loop
invariant-loop l = (l.counter ≤ l.n) × (is_lines l.n l.text ≡ is_lines (l.n - l.counter) l.rest)
