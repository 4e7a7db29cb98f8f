-- `codebook_text::text::fill` meets its contract: the numbers written and those of the lines to come are the text's. Assumes nothing.
use mathlib.Core.Path.{◌≡◌}
use mathlib.Core.Bool.{true}
use mathlib.Core.List.{◌++◌}
use Prim.Native.Nat.{◌-◌}
use lib.ListN.{length, take}
use Rattle.codebook_text.specs.Text.{is_lines, numbers}
use Rattle.codebook_text.proofs.text.fill.Given as goal

abbrev pub invariant-loop-entry : goal.invariant-loop-entry
invariant-loop-entry l =
    let n = length l.initial.codebook in
    record {
      good : is_lines (n - l.entry-index) l.rest ≡ true;
      read : take l.entry-index l.codebook ++ numbers (n - l.entry-index) l.rest ≡ numbers n l.text;
    }
