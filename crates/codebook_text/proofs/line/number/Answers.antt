-- `codebook_text::line::number` meets its contract: ten digits stay far from the ends of the type. Assumes nothing.
use mathlib.Core.Path.{◌≡◌, sym, ◌∙◌}
use mathlib.Core.Bool.{true, false}
use Rattle.codebook_text.specs.Text.{is_negative, unsigned, digits_value, number_of}
use Rattle.codebook_text.proofs.Digits.{number_digits}
use Rattle.codebook_text.proofs.Signs.{signed_is, negated_fits, negated_is}
use Rattle.codebook_text.proofs.line.number.Goals as goal

pub digits_value-size-requires : goal.digits_value-size-requires
digits_value-size-requires c = rw c.unsigned_part.ensures (number_digits c.args.line.now c.requires)

pub overflow_sub-result : goal.overflow_sub-result
overflow_sub-result c = negated_fits c.digits_value-size.result c.digits_value-size.ensures.bound

pub returns-then-is_negative : goal.returns-then-is_negative
unfolding number_of
returns-then-is_negative c =
    let m = c.digits_value-size in
    let line = c.args.line.now in
    let n : is_negative line ≡ true = sym c.is_negative.ensures ∙ c.if-is_negative.true in
    let v : m.result ≡ digits_value (unsigned line) = rw c.unsigned_part.ensures at m.ensures.equal in
    rw (n, ← v) (negated_is m.result m.ensures.bound)

pub returns-else-is_negative : goal.returns-else-is_negative
unfolding number_of
returns-else-is_negative c =
    let m = c.digits_value-size in
    let line = c.args.line.now in
    let n : is_negative line ≡ false = sym c.is_negative.ensures ∙ c.if-is_negative.false in
    let v : m.result ≡ digits_value (unsigned line) = rw c.unsigned_part.ensures at m.ensures.equal in
    rw (n, ← v) (signed_is m.result m.ensures.bound)
