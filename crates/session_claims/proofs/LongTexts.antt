-- Past the longest file and one byte more, no byte of a text counts. Assumes nothing.
use mathlib.Core.Path.{◌≡◌, refl, sym, ap, ◌∙◌}
use mathlib.Core.List.{List}
use Prim.Native.Nat.{ℕ, ◌+◌, ◌-◌, ◌≤◌}
use native.Mathlib.Omega.{arith}
use lib.ListN.{length, take, drop, length-append}
use lib.Seq.{take-take}
use Rattle.text.specs.Text.{ascii, decimal}
use Rattle.text.proofs.Decimals.{decimal_length}
use Rattle.std.specs.Prelude.{Option, None, Some}
use Rattle.session.specs.Format.{file_line, order_line, count_line, most_text}
use Rattle.session_lines.specs.Lines.{digits_value}
use Rattle.session_lines.specs.Headers.{bad_header_line, frames_in, first_place}
use Rattle.session_claims.specs.Reading.{reading}
use Rattle.session_lines.proofs.Scans.{begins_take}
use Rattle.session_lines.proofs.Values.{value_fits}
use Rattle.session_lines.proofs.HeaderLines.{bad_by, frames_is, first_is}
use Rattle.session_lines.proofs.Headers.{good_header}
use Rattle.session_claims.proofs.Rests.{rest_reading}
use Rattle.session_claims.proofs.Readings.{reading_bad, reading_good}
use Rattle.session_claims.proofs.FrontLines.{drop_take, rest_take}

-- a third line of a number of four digits has at most 12 bytes
count_length : (n : ℕ) → n ≤ 9999 → length (count_line n) ≤ 12
unfolding count_line
count_length n h = omega (arith, length-append (decimal n) (ascii "\n"), decimal_length 3 n (omega arith))

module _ (text : List ℕ) (m : ℕ) (enough : most_text + 1 ≤ m) where
  -- the number in the third line
  abbrev n : ℕ
  n = digits_value 0 (take 4 (drop 29 text))

  -- it is the same in the front
  number_same : n ≡ digits_value 0 (take 4 (drop 29 (take m text)))
  number_same = rw (drop_take 29 m text, take-take 4 (m - 29) (drop 29 text) (omega arith)) refl

  -- and the line has at most 12 bytes
  third_le : length (count_line n) ≤ 12
  third_le = count_length n (omega (arith, value_fits (drop 29 text)))

  -- the first bad line is the same
  bad_same : bad_header_line (take m text) ≡ bad_header_line text
  bad_same =
      bad_by (take m text) n number_same
      ∙ rw (
        begins_take file_line text m (omega arith),
        drop_take 10 m text,
        begins_take order_line (drop 10 text) (m - 10) (omega arith),
        drop_take 22 m text,
        begins_take (count_line n) (drop 22 text) (m - 22) (omega (arith, third_le)),
      ) (sym (bad_by text n refl))

  -- a long enough front of a text is read as the text
  pub reading_take : reading (take m text) ≡ reading text
  reading_take = go (bad_header_line text) refl
    where
      go : (b : Option ℕ) → bad_header_line text ≡ b → reading (take m text) ≡ reading text
      go (Some b) e = reading_bad (take m text) b (bad_same ∙ e) ∙ sym (reading_bad text b e)
      go None e =
          let front = take m text in
          let frames : frames_in front ≡ frames_in text = frames_is front n number_same (bad_same ∙ e) ∙ sym (frames_is text n refl e) in
          let first = first_is text n refl e in
          let place : first_place front ≡ first_place text = first_is front n number_same (bad_same ∙ e) ∙ sym first in
          reading_good front (bad_same ∙ e)
          ∙ (λ i. rest_reading (frames i) (drop (place i) front) 0)
          ∙ ap (λ (t : List ℕ). rest_reading (frames_in text) t 0) (drop_take (first_place text) m text)
          ∙ rest_take (frames_in text) (m - first_place text) (drop (first_place text) text) 0 (omega (arith, first, third_le, (good_header text e).1))
          ∙ sym (reading_good text e)
