-- `session_lines::header::read_header` meets its contract: one line after the other. Assumes nothing.
use mathlib.Core.Path.{◌≡◌, refl, sym, ap, ◌∙◌}
use mathlib.Core.Bool.{Bool, true, false, cond}
use mathlib.Core.List.{List}
use Prim.Native.Nat.{ℕ}
use lib.ListN.{length, drop}
use lib.Seq.{drop-drop}
use Rattle.std.specs.Prelude.{None, Some, Err}
use Rattle.std.specs.Option.{ok_or}
use Rattle.refusal.specs.declared.Refusal.TheVariants.{BadLine}
use Rattle.session.specs.Format.{file_line, order_line, header}
use Rattle.session_lines.specs.Lines.{count_of, is_count_line}
use Rattle.session_lines.specs.Scans.{begins, counted}
use Rattle.session_lines.specs.Headers.{third_line, frames_in, first_place, told_unless, header_of}
use Rattle.session_lines.specs.declared.header.LineRefusal.{LineRefusal}
use Rattle.session_lines.proofs.HeaderLines.{bad_is}
use Rattle.session_lines.proofs.header.read_header.Goals as goal

abbrev bad : ℕ → LineRefusal
bad line = record { refusal = BadLine; line = line }

module _ (text : List ℕ) where
  -- the first line is bad
  by_first : begins file_line text ≡ false → Err (bad 1) ≡ header_of text
  unfolding header_of
  by_first f = rw (bad_is text, f) refl

  -- the second is
  by_second : begins file_line text ≡ true → begins order_line (drop 10 text) ≡ false → Err (bad 2) ≡ header_of text
  unfolding header_of
  by_second f o = rw (bad_is text, f, o) refl

  -- none of these
  by_third : begins file_line text ≡ true → begins order_line (drop 10 text) ≡ true → ok_or (counted (drop 22 text)) (bad 3) ≡ header_of text
  unfolding header_of frames_in first_place
  by_third f o = rw (bad_is text, f, o) (go (is_count_line (third_line text)))
    where
      go : (b : Bool) → ok_or (cond b (Some (record { frames = count_of (third_line text); first = length (header (count_of (third_line text))) })) None) (bad 3)
          ≡ told_unless (cond b None (Some 3)) text
      go true = refl
      go false = refl

pub returns-in_default : goal.returns-in_default
returns-in_default c =
    let text = c.args.text.now in
    ap Err c.bad.ensures ∙ by_first text (c.in_default.ensures)

pub returns-in_default-after : goal.returns-in_default-after
returns-in_default-after c =
    let text = c.args.text.now in
    let first = c.in-Some.ensures in
    let order = sym (ap (begins order_line) first.1) ∙ c.in_default-after.ensures in
    ap Err c.bad-in_default-after.ensures ∙ by_second text first.0 order

pub returns : goal.returns
returns c =
    let text = c.args.text.now in
    let first = c.in-Some.ensures in
    let second = c.in-Some-after.ensures in
    let order = sym (ap (begins order_line) first.1) ∙ second.0 in
    let rest = second.1 ∙ ap (drop 12) first.1 ∙ drop-drop 12 10 text in
    c.ok_or.ensures.value
    ∙ (λ i. ok_or ((c.read_count.ensures ∙ ap counted rest) i) (c.bad-2.ensures i))
    ∙ by_third text first.0 order
