-- `session_lines::frames::digits_at` meets its contract: 17 bytes, and three tests of them. Assumes nothing.
use mathlib.Core.Path.{◌≡◌, sym, ap, ◌∙◌}
use mathlib.Core.Bool.{Bool, true, false, ◌&&◌, and-false, and-eq-true_iff}
use mathlib.Core.List.{List}
use Prim.Native.Nat.{ℕ, ◌≤◌, ◌<◌}
use native.Mathlib.Omega.{arith}
use lib.ListN.{length, take, drop, length-drop, drop_of_length-le}
use lib.Seq.{length-take-le}
use Rattle.std.proofs.lemmas.Slice.{between_to_end}
use Rattle.text.specs.Text.{ascii}
use Rattle.session_lines.specs.Lines.{line_at, all_hex, hex_bytes, is_frame_line}
use Rattle.session_lines.specs.Scans.{begins}
use Rattle.session_lines.proofs.Scans.{begins_take, starts, starts_with_is}
use Rattle.session_lines.proofs.FrameScans.{part_is, end_is, scan_is, frame_is}
use Rattle.session_lines.proofs.frames.digits_at.Goals as goal
use Rattle.session_lines.proofs.frames.digits_at.Goals.{After-strip_prefix}

module _ (text : List ℕ) (at : ℕ) where
  abbrev t : List ℕ
  t = drop at text

  abbrev name : List ℕ → Bool
  name l = begins (ascii "f=") l

  -- fewer than 17 bytes are left
  short : length t ≤ 16 → is_frame_line (line_at text at) ≡ false
  unfolding begins
  short h =
      scan_is t
      ∙ ap (λ (l : List ℕ). name t && (begins (ascii "\n") l && all_hex (take 14 (drop 2 t)))) (drop_of_length-le t {i = 16} h)
      ∙ and-false (name t)

  -- another name
  unnamed : name t ≡ false → is_frame_line (line_at text at) ≡ false
  unnamed e = scan_is t ∙ ap (λ (b : Bool). b && (begins (ascii "\n") (drop 16 t) && all_hex (take 14 (drop 2 t)))) e

  -- after the name the other two tests tell
  named : name t ≡ true → is_frame_line (line_at text at) ≡ begins (ascii "\n") (drop 16 t) && all_hex (take 14 (drop 2 t))
  named e = scan_is t ∙ ap (λ (b : Bool). b && (begins (ascii "\n") (drop 16 t) && all_hex (take 14 (drop 2 t)))) e

-- the text at the offset, and its first 17 bytes
text_is : (c : After-strip_prefix) → c.in_ok-get.field-0.now ≡ drop c.args.at c.args.text.now
text_is c = c.in_ok-get.ensures.lookup.0.2 ∙ between_to_end c.args.text.now c.args.at (length c.args.text.now) (omega arith)

line_is : (c : After-strip_prefix) → c.in_ok-first_chunk.field-0.now ≡ take 17 (drop c.args.at c.args.text.now)
line_is c = c.in_ok-first_chunk.ensures.cases.same ∙ ap (take 17) (text_is c)

long : (c : After-strip_prefix) → 17 ≤ length (drop c.args.at c.args.text.now)
long c = omega (arith, c.in_ok-first_chunk.ensures.cases.enough, ap length (text_is c))

name_is : (c : After-strip_prefix) (b : Bool) → begins (ascii "f=") c.in_ok-first_chunk.field-0.now ≡ b → name c.args.text.now c.args.at (drop c.args.at c.args.text.now) ≡ b
name_is c b e = sym (begins_take (ascii "f=") (drop c.args.at c.args.text.now) 17 (omega arith)) ∙ ap (begins (ascii "f=")) (sym (line_is c)) ∙ e

pub returns-in_err-get : goal.returns-in_err-get
returns-in_err-get c =
    let text = c.args.text.now in
    let far : length text < c.args.at = grind arith in
    rw c.from_residual.ensures (short text c.args.at (omega (arith, length-drop c.args.at text)))

pub returns-in_err-first_chunk : goal.returns-in_err-first_chunk
returns-in_err-first_chunk c =
    let text = c.args.text.now in
    let few : length c.in_ok-get.field-0.now < 17 = c.in_err-first_chunk.ensures.cases in
    let is : c.in_ok-get.field-0.now ≡ drop c.args.at text = c.in_ok-get.ensures.lookup.0.2 ∙ between_to_end text c.args.at (length text) (omega arith) in
    rw c.from_residual-in_err-first_chunk.ensures (short text c.args.at (omega (arith, few, ap length is)))

pub returns-in_err-strip_prefix : goal.returns-in_err-strip_prefix
returns-in_err-strip_prefix c =
    let at = goal.at.returns-in_err-strip_prefix c in
    let other = sym (starts (ascii "f=") c.in_ok-first_chunk.field-0.now) ∙ c.in_err-strip_prefix.ensures.cases in
    rw c.from_residual-in_err-strip_prefix.ensures (unnamed c.args.text.now c.args.at (name_is at.After-strip_prefix false other))

pub returns-in_err-digits : goal.returns-in_err-digits
returns-in_err-digits c =
    let at = goal.at.returns-in_err-digits c in
    let few : length c.in_ok-strip_prefix.field-0.now < 14 = c.in_err-digits.ensures.cases in
    let size = ap length (line_is at.After-strip_prefix) ∙ length-take-le 17 (drop c.args.at c.args.text.now) (long at.After-strip_prefix) in
    absurd (omega (arith, few, size, c.in_ok-strip_prefix.ensures.cases.2))

pub returns-then-starts_with-all_hex : goal.returns-then-starts_with-all_hex
returns-then-starts_with-all_hex c =
    let text = c.args.text.now in
    let at = goal.at.returns-then-starts_with-all_hex c in
    let strip = c.in_ok-strip_prefix.ensures.cases in
    let name = name_is at.After-strip_prefix true (sym (starts (ascii "f=") c.in_ok-first_chunk.field-0.now) ∙ strip.0) in
    let p = c.in_ok-digits.ensures.cases in
    let after : c.in_ok-strip_prefix.field-0.now ≡ drop 2 (take 17 (drop c.args.at text)) = strip.1 ∙ ap (drop 2) (line_is at.After-strip_prefix) in
    let digits : c.in_ok-digits.digits.now ≡ take 14 (drop 2 (drop c.args.at text)) = p.0 ∙ ap (take 14) after ∙ part_is (drop c.args.at text) in
    let rest : c.in_ok-digits.rest.now ≡ take 1 (drop 16 (drop c.args.at text)) = p.1 ∙ ap (drop 14) after ∙ end_is (drop c.args.at text) (long at.After-strip_prefix) in
    let tests = (and-eq-true_iff c.starts_with.result c.all_hex.result).0 c.if-starts_with-all_hex.true in
    let end = sym (begins_take (ascii "\n") (drop 16 (drop c.args.at text)) 1 (omega arith)) ∙ ap (begins (ascii "\n")) (sym rest) ∙ sym (starts_with_is (ascii "\n") c.in_ok-digits.rest.now) ∙ sym c.starts_with.ensures.value ∙ tests.0 in
    let hex = sym c.all_hex.ensures ∙ tests.1 in
    let line = named text c.args.at name ∙ (λ i. end i && (ap all_hex (sym digits) ∙ hex) i) in
    (line, hex, (frame_is (drop c.args.at text) line).2 ∙ ap hex_bytes (sym digits))

pub returns-else-starts_with-all_hex : goal.returns-else-starts_with-all_hex
returns-else-starts_with-all_hex c =
    let text = c.args.text.now in
    let at = goal.at.returns-else-starts_with-all_hex c in
    let strip = c.in_ok-strip_prefix.ensures.cases in
    let name = name_is at.After-strip_prefix true (sym (starts (ascii "f=") c.in_ok-first_chunk.field-0.now) ∙ strip.0) in
    let p = c.in_ok-digits.ensures.cases in
    let after : c.in_ok-strip_prefix.field-0.now ≡ drop 2 (take 17 (drop c.args.at text)) = strip.1 ∙ ap (drop 2) (line_is at.After-strip_prefix) in
    let digits : c.in_ok-digits.digits.now ≡ take 14 (drop 2 (drop c.args.at text)) = p.0 ∙ ap (take 14) after ∙ part_is (drop c.args.at text) in
    let rest : c.in_ok-digits.rest.now ≡ take 1 (drop 16 (drop c.args.at text)) = p.1 ∙ ap (drop 14) after ∙ end_is (drop c.args.at text) (long at.After-strip_prefix) in
    let end = sym (begins_take (ascii "\n") (drop 16 (drop c.args.at text)) 1 (omega arith)) ∙ ap (begins (ascii "\n")) (sym rest) ∙ sym (starts_with_is (ascii "\n") c.in_ok-digits.rest.now) ∙ sym c.starts_with.ensures.value in
    named text c.args.at name ∙ (λ i. end i && (ap all_hex (sym digits) ∙ sym c.all_hex.ensures) i) ∙ c.if-starts_with-all_hex.false
