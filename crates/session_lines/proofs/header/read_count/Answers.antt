-- `session_lines::header::read_count` meets its contract: the name before the number, and three tests of it. Assumes nothing.
use mathlib.Core.Path.{◌≡◌, refl, sym, ap, ◌∙◌}
use mathlib.Core.Bool.{Bool, true, false, ◌&&◌, ◌||◌, and-false, and_assoc, and-eq-true_iff}
use mathlib.Core.List.{List}
use Prim.Native.Nat.{ℕ, ◌+◌}
use lib.Dec.{ltb, leb, eqb}
use lib.ListN.{length, take, drop, get_or, get_or-eq_default}
use Rattle.std.specs.Prelude.{None, Some}
use Rattle.text.specs.Text.{ascii}
use Rattle.session.specs.Format.{header, most_frames}
use Rattle.session_lines.specs.Lines.{line_of, digits_value, is_count_line}
use Rattle.session_lines.specs.Scans.{begins, digits_in, counted}
use Rattle.session_lines.proofs.CountScans.{well_ended}
use Rattle.session_lines.proofs.HeaderScans.{rest, n, size, third_scan, scan_size}
use Rattle.session_lines.proofs.header.read_count.Goals as goal

-- the tests of a number
abbrev tests : List ℕ → ℕ → ℕ → Bool
tests number value digits = (leb value most_frames && (ltb 48 (get_or number 0 0) || eqb digits 1)) && eqb (get_or number digits 0) 10

-- where the name is missing
unnamed : (text : List ℕ) → begins (ascii "frames=") text ≡ false → None ≡ counted text
unnamed text e =
    let bad : is_count_line (line_of text) ≡ false =
    third_scan text ∙ ap (λ (b : Bool). leb (n text) most_frames && (b && well_ended (size text) (rest text))) e ∙ and-false (leb (n text) most_frames) in
    rw bad refl

-- after the name, by these tests
module _ (text number : List ℕ) (value digits : ℕ) (name : begins (ascii "frames=") text ≡ true) (is : number ≡ drop 7 text)
    (value_is : value ≡ digits_value 0 (take 4 number)) (digits_are : digits ≡ digits_in (take 4 number)) where
  abbrev same_value : value ≡ n text
  same_value = value_is ∙ ap (λ (l : List ℕ). digits_value 0 (take 4 l)) is

  abbrev same_digits : digits ≡ size text
  same_digits = digits_are ∙ ap (λ (l : List ℕ). digits_in (take 4 l)) is

  good : is_count_line (line_of text) ≡ leb (n text) most_frames && well_ended (size text) (rest text)
  good = third_scan text ∙ ap (λ (b : Bool). leb (n text) most_frames && (b && well_ended (size text) (rest text))) name

  tested : is_count_line (line_of text) ≡ tests number value digits
  tested =
      good
      ∙ sym (and_assoc (leb (n text) most_frames) (ltb 48 (get_or (rest text) 0 0) || eqb (size text) 1) (eqb (get_or (rest text) (size text) 0) 10))
      ∙ (λ i. tests (sym is i) (sym same_value i) (sym same_digits i))

  counted_good : tests number value digits ≡ true → Some (record { frames = value; first = 30 + digits }) ≡ counted text
  counted_good e =
      let line = tested ∙ e in
      let p = scan_size text name ((and-eq-true_iff (leb (n text) most_frames) (well_ended (size text) (rest text))).0 (sym good ∙ line)).1 in
      let first = ap (λ (k : ℕ). 30 + k) same_digits ∙ sym p.1 ∙ ap (λ (m : ℕ). length (header m)) (sym p.0) in
      rw line (λ i. Some (record { frames = (same_value ∙ sym p.0) i; first = first i }))

  counted_bad : tests number value digits ≡ false → None ≡ counted text
  counted_bad e = rw (tested ∙ e) refl

pub returns-in_err-number : goal.returns-in_err-number
returns-in_err-number c = c.from_residual.ensures ∙ unnamed c.args.text.now (c.in_err-number.ensures)

pub returns-then-number-count : goal.returns-then-number-count
returns-then-number-count c =
    let text = c.args.text.now in
    let number = c.in_ok-number.number.now in
    let count = c.count_in-count in
    let strip = c.in_ok-number.ensures in
    let out : eqb (get_or number count.result.digits 0) 10 ≡ false = ap (λ (b : ℕ). eqb b 10) (get_or-eq_default number 0 c.if-number-count.true) in
    let front = leb count.result.value most_frames && (ltb 48 (get_or number 0 0) || eqb count.result.digits 1) in
    counted_bad text number count.result.value count.result.digits strip.0 strip.1 count.ensures.value count.ensures.digits
    (ap (λ (b : Bool). front && b) out ∙ and-false front)

pub returns-then-count-plain : goal.returns-then-count-plain
returns-then-count-plain c =
    let text = c.args.text.now in
    let count = c.count_in-count in
    let strip = c.in_ok-number.ensures in
    counted_good text c.in_ok-number.number.now count.result.value count.result.digits strip.0 strip.1 count.ensures.value count.ensures.digits
    c.if-count-plain.true

pub returns-else-count-plain : goal.returns-else-count-plain
returns-else-count-plain c =
    let text = c.args.text.now in
    let count = c.count_in-count in
    let strip = c.in_ok-number.ensures in
    counted_bad text c.in_ok-number.number.now count.result.value count.result.digits strip.0 strip.1 count.ensures.value count.ensures.digits
    c.if-count-plain.false
