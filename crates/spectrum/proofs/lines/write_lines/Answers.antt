-- `spectrum::lines::write_lines` meets its contract: after i turns the lines of the first i numbers stand there. Assumes nothing.
use mathlib.Core.Path.{◌≡◌, refl}
use mathlib.Core.List.{◌++◌}
use Prim.Native.Nat.{◌+◌, ◌<◌}
use native.Mathlib.Numerals.{add-one}
use native.Mathlib.Omega.{arith}
use lib.ListN.{length, get_or, take}
use lib.Seq.{take_all}
use lib.IntN.{pos}
use mir.Syntax.{w64}
use mir.Val.{to_z, of_z}
use borrow.Author.Rules.{rules}
use Rattle.codebook_values.proofs.Sizes.{number_back}
use Rattle.value_lines.specs.Lines.{value_line}
use Rattle.text.proofs.Additions.{line_added}
use Rattle.text.proofs.Puts.{appended_none, appended_append}
use Rattle.spectrum.specs.Lines.{lines}
use Rattle.spectrum.proofs.Output.{lines_more}
use Rattle.spectrum.proofs.lines.write_lines.Goals as goal

pub loop-number-init : goal.loop-number-init
unfolding lines
loop-number-init c = record { ten = c.told-numbers; room = refl; bound = omega arith; lines = appended_none c.args.out.now c.args.at }

pub loop-number-preserved : goal.loop-number-preserved
loop-number-preserved c =
    let L = c.loop-number in
    let numbers = c.args.numbers.now in
    let i = L.number-index in
    let x = get_or numbers i (pos 0) in
    let w = c.value_line.ensures in
    let h : i < length numbers = omega arith in
    let q = line_added (value_line (to_z w64 (of_z w64 x))) L.out _ L.end 22 _ _ (w.answer, (w.written, w.bound)) c.end_of-end.ensures (omega arith) in
    let e = rw (number_back x (search rules)) at q.0 in
    let m : lines (take (i + 1) numbers) ≡ lines (take i numbers) ++ value_line x = rw add-one (lines_more numbers i (pos 0) h) in
    record {
      ten = c.told-numbers;
      room = search rules;
      bound = omega (arith, q.1);
      lines = rw m (appended_append _ _ _ _ _ _ _ _ L.invariant.lines e);
    }

pub returns : goal.returns
returns c =
    let L = c.loop-number in
    let numbers = c.args.numbers.now in
    let e : L.number-index ≡ 10 = omega arith in
    let t : take L.number-index numbers ≡ numbers = rw e (take_all 10 numbers (omega arith)) in
    record { lines = rw t at L.invariant.lines; bound = omega arith }
