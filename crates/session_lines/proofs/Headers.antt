-- A text with three good lines is the header for a number of frames with anything after it. Assumes nothing.
use mathlib.Core.Path.{◌≡◌, refl, ap, ◌∙◌}
use mathlib.Core.List.{List, ◌++◌}
use Prim.Native.Nat.{ℕ, ◌+◌, ◌≤◌}
use native.Mathlib.Omega.{arith}
use lib.ListN.{length, drop}
use lib.Seq.{drop-drop}
use Rattle.std.specs.Prelude.{None}
use Rattle.session.specs.Format.{file_line, order_line, count_line, header, most_frames}
use Rattle.session_lines.specs.Lines.{line_of}
use Rattle.session_lines.specs.Headers.{bad_header_line, frames_in, first_place}
use Rattle.session_lines.proofs.Scans.{begins_is}
use Rattle.session_lines.proofs.CountLines.{count_first, count_value, count_good}
use Rattle.session_lines.proofs.HeaderLines.{header_passed}

-- the first frame's line comes after the third line
place_is : (text : List ℕ) → 22 + length (count_line (frames_in text)) ≡ first_place text
unfolding first_place header
place_is text = omega arith

-- three good lines are the header for the frames that they promise
pub good_header : (text : List ℕ) → bad_header_line text ≡ None → (text ≡ header (frames_in text) ++ drop (first_place text) text) × (frames_in text ≤ most_frames)
unfolding header
good_header text e =
    let p = header_passed text e in
    let third = count_line (frames_in text) in
    let order : drop 10 text ≡ order_line ++ drop 22 text =
    begins_is order_line (drop 10 text) p.order ∙ ap (λ (l : List ℕ). order_line ++ l) (drop-drop 12 10 text) in
    let count : drop 22 text ≡ third ++ drop (first_place text) text =
    begins_is third (drop 22 text) p.count
    ∙ ap (λ (l : List ℕ). third ++ l) (drop-drop (length third) 22 text ∙ ap (λ (k : ℕ). drop k text) (place_is text)) in (
      begins_is file_line text p.file
          ∙ ap (λ (l : List ℕ). file_line ++ l) order
          ∙ ap (λ (l : List ℕ). file_line ++ (order_line ++ l)) count,
      p.most,
    )

module _ (n : ℕ) (rest : List ℕ) (h : n ≤ most_frames) where
  -- the header for at most 2,000 frames has three good lines
  pub header_good : bad_header_line (header n ++ rest) ≡ None
  unfolding bad_header_line header line_of
  header_good = rw (count_first n rest, count_good n h) refl

  -- and promises so many
  pub header_frames : frames_in (header n ++ rest) ≡ n
  unfolding frames_in header
  header_frames = rw (count_first n rest) (count_value n h)

  -- and they start after it
  pub header_place : first_place (header n ++ rest) ≡ length (header n)
  unfolding first_place
  header_place = ap (λ (m : ℕ). length (header m)) header_frames
