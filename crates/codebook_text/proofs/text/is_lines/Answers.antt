-- `codebook_text::text::is_lines` meets its contract: the lines passed are good, so the test goes by those to come. Assumes nothing.
use mathlib.Core.Path.{◌≡◌, sym, ◌∙◌}
use Prim.Native.Nat.{◌-◌}
use native.Mathlib.Omega.{arith}
use Rattle.codebook_text.specs.Text.{is_lines}
use Rattle.codebook_text.proofs.Turns.{empty_is, lines_open, lines_bad, lines_good}
use Rattle.codebook_text.proofs.text.is_lines.Goals as goal

pub loop-preserved : goal.loop-preserved
loop-preserved c =
    let L = c.loop in
    let p = c.in-Some.ensures.parts in
    let good = rw p.0 at c.if-not-is_number.ensures in
    (omega arith, rw p.1 (L.invariant.1 ∙ lines_good L.rest.now c.args.n L.counter c.loop-test.true (sym c.in-Some.ensures.ended) (sym good)))

pub returns-in_default : goal.returns-in_default
returns-in_default c =
    let L = c.loop in
    sym (L.invariant.1 ∙ lines_open L.rest.now c.args.n L.counter c.loop-test.true (sym c.in_default.ensures.ended))

pub returns-then-not-is_number : goal.returns-then-not-is_number
returns-then-not-is_number c =
    let L = c.loop in
    let bad = rw c.in-Some.ensures.parts.0 at c.if-not-is_number.ensures in
    sym (L.invariant.1 ∙ lines_bad L.rest.now c.args.n L.counter c.loop-test.true (sym bad))

pub returns : goal.returns
unfolding is_lines
returns c =
    let L = c.loop in
    let e : c.args.n - L.counter ≡ 0 = omega arith in
    c.is_empty.ensures ∙ empty_is L.rest.now ∙ sym (rw e at L.invariant.1)
