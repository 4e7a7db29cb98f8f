-- `session_lines::header::count_in` meets its contract: the value so far, and the digits to come. Assumes nothing.
use mathlib.Core.Path.{◌≡◌, sym, ◌∙◌}
use mathlib.Core.List.{List}
use Prim.Native.Nat.{ℕ, suc, ◌+◌, ◌*◌, ◌-◌, ◌<◌, ◌≤◌}
use native.Mathlib.Omega.{arith}
use lib.ListN.{length, take, drop, get_or, length-take}
use lib.Seq.{get_or-take}
use Rattle.session_lines.specs.Lines.{digits_value}
use Rattle.session_lines.specs.Scans.{digits_in}
use Rattle.session_lines.proofs.Values.{value_le, value_fits}
use Rattle.session_lines.proofs.Digits.{digit_taken, digits_stop, digits_out}
use Rattle.session_lines.proofs.header.count_in.Goals as goal

module _ (text : List ℕ) where
  -- the bytes that are looked at
  abbrev front : List ℕ
  front = take 4 text

  long : (i : ℕ) → i < 4 → i < length text → i < length front
  long i few room = omega (arith, length-take 4 text)

  byte : (i : ℕ) → i < 4 → get_or front i 0 ≡ get_or text i 0
  byte i few = get_or-take 4 text i 0 few

  -- what is told where no digit is to come
  told : (i value : ℕ) → digits_value 0 front ≡ digits_value value (drop i front) → digits_in front ≡ i + digits_in (drop i front)
      → (digits_value value (drop i front) ≡ value) × (digits_in (drop i front) ≡ 0) → (value ≡ digits_value 0 front) × (i ≡ digits_in front)
  told i value v d p = (sym (v ∙ p.0), omega (arith, d, p.1))

  -- a digit more, and the value with it, which is below 10,000 still
  more : (i value : ℕ) → i < 4 → i < length text → 48 ≤ get_or text i 0 → get_or text i 0 ≤ 57
      → let next = 10 * value + (get_or text i 0 - 48) in
      (digits_value value (drop i front) ≡ digits_value next (drop (i + 1) front)) × (digits_in (drop i front) ≡ suc (digits_in (drop (i + 1) front)))
  more i value few room low high =
      rw (byte i few) at (digit_taken front i value (long i few room) (rw (byte i few) low) (rw (byte i few) high))

  small : (i value : ℕ) → i < 4 → i < length text → 48 ≤ get_or text i 0 → get_or text i 0 ≤ 57 → digits_value 0 front ≡ digits_value value (drop i front)
      → 10 * value + (get_or text i 0 - 48) < 10000
  small i value few room low high v =
      let next = 10 * value + (get_or text i 0 - 48) in
      omega (arith, value_fits text, v, (more i value few room low high).0, value_le next (drop (i + 1) front))

pub returns-then-text-i : goal.returns-then-text-i
returns-then-text-i c =
    let L = c.loop-i in
    let text = c.args.text.now in
    let p = told text L.i L.value L.invariant.value L.invariant.digits (digits_out (take 4 text) L.i L.value (omega (arith, length-take 4 text, c.if-text-i.true))) in
    record { value = p.0; digits = p.1; bound = omega arith }

pub returns-then-not-is_ascii_digit : goal.returns-then-not-is_ascii_digit
returns-then-not-is_ascii_digit c =
    let L = c.loop-i in
    let text = c.args.text.now in
    let few = c.loop-i-test.true in
    let h = long text L.i few (omega arith) in
    let same = byte text L.i few in
    let p = told text L.i L.value L.invariant.value L.invariant.digits (digits_stop (take 4 text) L.i L.value h (λ low high. grind (arith, same))) in
    record { value = p.0; digits = p.1; bound = omega arith }

pub overflow_mul-value : goal.overflow_mul-value
overflow_mul-value c =
    let L = c.loop-i in
    let digit = c.if-not-is_ascii_digit.ensures.cases in
    omega (arith, small c.args.text.now L.i L.value c.loop-i-test.true (omega arith) digit.0 digit.1 L.invariant.value)

pub overflow_add-value : goal.overflow_add-value
overflow_add-value c =
    let L = c.loop-i in
    let digit = c.if-not-is_ascii_digit.ensures.cases in
    omega (arith, small c.args.text.now L.i L.value c.loop-i-test.true (omega arith) digit.0 digit.1 L.invariant.value)

pub loop-i-preserved : goal.loop-i-preserved
loop-i-preserved c =
    let L = c.loop-i in
    let digit = c.if-not-is_ascii_digit.ensures.cases in
    let p = more c.args.text.now L.i L.value c.loop-i-test.true (omega arith) digit.0 digit.1 in
    record { few = omega arith; value = rw c.from.ensures (L.invariant.value ∙ p.0); digits = omega (arith, L.invariant.digits, p.1) }

pub returns : goal.returns
returns c =
    let L = c.loop-i in
    let text = c.args.text.now in
    let end : L.i ≡ 4 = omega arith in
    let p = told text L.i L.value L.invariant.value L.invariant.digits (digits_out (take 4 text) L.i L.value (omega (arith, length-take 4 text))) in
    record { value = p.0; digits = sym end ∙ p.1; bound = omega arith }
