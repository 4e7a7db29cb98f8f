-- The three lines before the frames, by the bytes at their places: which is bad, how many frames they promise, and what follows them. Assumes nothing.
use mathlib.Core.Path.{◌≡◌, refl, sym, ap, ◌∙◌}
use mathlib.Core.Bool.{Bool, true, false, ◌&&◌, and-false, and-eq-true_iff}
use mathlib.Core.List.{List, ◌++◌}
use Prim.Native.Nat.{ℕ, ◌+◌, ◌≤◌}
use native.Mathlib.Omega.{arith}
use lib.Dec.{leb}
use lib.ListN.{length, take, drop}
use lib.Seq.{drop-drop}
use borrow.Author.Tests.{leb-true}
use Rattle.std.specs.Prelude.{None}
use Rattle.text.specs.Text.{ascii, decimal}
use Rattle.session.specs.Format.{file_line, order_line, count_line, header, most_frames}
use Rattle.session_lines.specs.Lines.{line_of, same_bytes, digits_value, count_of, is_count_line}
use Rattle.session_lines.specs.Scans.{begins}
use Rattle.session_lines.specs.Headers.{third_line, first_bad, bad_header_line, frames_in, first_place}
use Rattle.session_lines.proofs.Scans.{begins_join}
use Rattle.session_lines.proofs.WholeLines.{line_begins}
use Rattle.session_lines.proofs.CountLines.{count_begins, count_digits}

-- the first bad line, by what stands at the place of each
pub bad_is : (text : List ℕ) → bad_header_line text ≡ first_bad (begins file_line text) (begins order_line (drop 10 text)) (is_count_line (third_line text))
unfolding bad_header_line
bad_is text =
    let a : same_bytes (line_of text) file_line ≡ begins file_line text = line_begins (ascii "file=melp") text (omega arith) in
    let b : same_bytes (line_of (drop 10 text)) order_line ≡ begins order_line (drop 10 text) = line_begins (ascii "order=house") (drop 10 text) (omega arith) in
    λ i. first_bad (a i) (b i) (is_count_line (third_line text))

-- what good lines are: none is bad, and the third is that for the number of frames
pub record Passed (text : List ℕ) : Type 0 where
  pub file : begins file_line text ≡ true
  pub order : begins order_line (drop 10 text) ≡ true
  pub count : begins (count_line (frames_in text)) (drop 22 text) ≡ true
  pub most : frames_in text ≤ most_frames

pub header_passed : (text : List ℕ) → bad_header_line text ≡ None → Passed text
unfolding is_count_line frames_in
header_passed text e = go (begins file_line text) (begins order_line (drop 10 text)) (is_count_line (third_line text)) refl refl refl (sym (bad_is text) ∙ e)
  where
    m : ℕ
    m = count_of (third_line text)

    go : (a b c : Bool) → begins file_line text ≡ a → begins order_line (drop 10 text) ≡ b → is_count_line (third_line text) ≡ c → first_bad a b c ≡ None → Passed text
    go false b c f o p z = absurd cc
    go true false c f o p z = absurd cc
    go true true false f o p z = absurd cc
    go true true true f o p z =
        let q = (and-eq-true_iff (leb m most_frames) (same_bytes (third_line text) (count_line m))).0 p in
        record { file = f; order = o; count = sym (count_begins m (drop 22 text)) ∙ q.1; most = leb-true m most_frames q.0 }

-- the name of the third line comes first in it
pub name_begins : (n : ℕ) (t : List ℕ) → begins (count_line n) t ≡ begins (ascii "frames=") t && begins (decimal n ++ ascii "\n") (drop 7 t)
unfolding count_line
name_begins n t = begins_join (ascii "frames=") (decimal n ++ ascii "\n") t

-- a line is a good third one where it is that for the number which four digits after the name write
pub third_told : (t : List ℕ) (n : ℕ) → n ≡ digits_value 0 (take 4 (drop 7 t)) → leb n most_frames && begins (count_line n) t ≡ is_count_line (line_of t)
unfolding is_count_line
third_told t n is = rw (count_begins (count_of (line_of t)) t) (go (begins (ascii "frames=") t) refl)
  where
    m : ℕ
    m = count_of (line_of t)

    go : (b : Bool) → begins (ascii "frames=") t ≡ b → leb n most_frames && begins (count_line n) t ≡ leb m most_frames && begins (count_line m) t
    go true e = let same : m ≡ n = count_digits t e ∙ sym is in rw same refl
    go false e = rw (name_begins n t, name_begins m t, e, and-false (leb n most_frames), and-false (leb m most_frames)) refl

module _ (text : List ℕ) (n : ℕ) (is : n ≡ digits_value 0 (take 4 (drop 29 text))) where
  -- where the name stands at its place, the digits after it write the number of the line
  number_is : begins (ascii "frames=") (drop 22 text) ≡ true → count_of (third_line text) ≡ n
  number_is e = count_digits (drop 22 text) e ∙ ap (λ (l : List ℕ). digits_value 0 (take 4 l)) (drop-drop 7 22 text) ∙ sym is

  -- the third line is good where it is that for this number
  third_is : leb n most_frames && begins (count_line n) (drop 22 text) ≡ is_count_line (third_line text)
  third_is = third_told (drop 22 text) n (is ∙ ap (λ (l : List ℕ). digits_value 0 (take 4 l)) (sym (drop-drop 7 22 text)))

  -- the first bad line is the first that is not at its place
  pub bad_by : bad_header_line text ≡ first_bad (begins file_line text) (begins order_line (drop 10 text)) (leb n most_frames && begins (count_line n) (drop 22 text))
  bad_by = bad_is text ∙ ap (λ (c : Bool). first_bad (begins file_line text) (begins order_line (drop 10 text)) c) (sym third_is)

  -- three good lines promise as many frames as the digits write
  pub frames_is : bad_header_line text ≡ None → frames_in text ≡ n
  unfolding frames_in
  frames_is e = number_is ((and-eq-true_iff _ _).0 (sym (name_begins (frames_in text) (drop 22 text)) ∙ (header_passed text e).count)).0

  -- and the first frame's line comes after them
  pub first_is : bad_header_line text ≡ None → first_place text ≡ 22 + length (count_line n)
  unfolding first_place header
  first_is e = rw (frames_is e) (omega arith)
