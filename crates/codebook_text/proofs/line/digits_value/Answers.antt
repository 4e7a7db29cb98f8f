-- `codebook_text::line::digits_value` meets its contract: the value so far and the digits to come write the value of all. Assumes nothing.
use mathlib.Core.Path.{sym, ◌∙◌}
use Prim.Native.Nat.{◌-◌, ◌≤◌, ◌<◌}
use native.Mathlib.Omega.{arith}
use lib.ListN.{length, get_or}
use Rattle.codebook_text.proofs.Digits.{digits_parts, digit_at, value_more, value_out, value_lt, value_fits}
use Rattle.codebook_text.proofs.line.digits_value.Goals as goal
use Rattle.codebook_text.proofs.line.digits_value.Goals.{In-loop-digit}

-- the byte at hand is a digit, and the value so far has fewer than ten
digit : (c : In-loop-digit) → (48 ≤ get_or c.args.digits.now c.loop-digit.digit-index 0) × (get_or c.args.digits.now c.loop-digit.digit-index 0 ≤ 57)
digit c = digit_at c.args.digits.now c.loop-digit.digit-index (digits_parts c.args.digits.now c.requires).2 c.loop-digit-test.true

so_far : (c : In-loop-digit) → c.loop-digit.value < 10000000000
so_far c =
    let m = digits_parts c.args.digits.now c.requires in
    value_fits c.loop-digit.value c.loop-digit.digit-index c.loop-digit.invariant.size (omega arith)

pub overflow_mul-value : goal.overflow_mul-value
overflow_mul-value c = omega (arith, so_far (goal.at.overflow_mul-value c).In-loop-digit)

pub overflow_sub-digit : goal.overflow_sub-digit
overflow_sub-digit c = omega (arith, digit (goal.at.overflow_sub-digit c).In-loop-digit)

pub overflow_add-value : goal.overflow_add-value
overflow_add-value c =
    let l = (goal.at.overflow_add-value c).In-loop-digit in
    omega (arith, so_far l, digit l)

pub loop-digit-preserved : goal.loop-digit-preserved
loop-digit-preserved c =
    let l = (goal.at.loop-digit-preserved c).In-loop-digit in
    let L = c.loop-digit in
    let s = c.args.digits.now in
    let d : get_or s L.digit-index 0 - 48 ≤ 9 = omega (arith, digit l) in
    rw c.from.ensures (record { size = value_lt L.value _ L.digit-index L.invariant.size d; value = L.invariant.value ∙ value_more s L.digit-index c.loop-digit-test.true L.value })

pub returns : goal.returns
returns c =
    let L = c.loop-digit in
    let s = c.args.digits.now in
    let m = digits_parts s c.requires in
    let h : length s ≤ L.digit-index = omega arith in
    record { equal = sym (L.invariant.value ∙ value_out s L.digit-index L.value h); bound = value_fits L.value L.digit-index L.invariant.size (omega arith) }
