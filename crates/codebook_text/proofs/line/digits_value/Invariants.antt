-- `codebook_text::line::digits_value` meets its contract: the value so far and the digits to come write the value of all. Assumes nothing.
use mathlib.Core.Path.{◌≡◌}
use Prim.Native.Nat.{◌^◌, ◌<◌}
use lib.ListN.{drop}
use Rattle.codebook_text.specs.Text.{value_after}
use Rattle.codebook_text.proofs.line.digits_value.Given as goal

abbrev pub invariant-loop-digit : goal.invariant-loop-digit
invariant-loop-digit l = record {
  size : l.value < 10 ^ l.digit-index;
  value : value_after 0 l.digits ≡ value_after l.value (drop l.digit-index l.digits);
}
