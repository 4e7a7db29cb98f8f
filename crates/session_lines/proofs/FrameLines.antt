-- Lines of frames: each is the line of the seven bytes that it is read as, and is read as the seven bytes that it is the line of. Assumes nothing.
use mathlib.Core.Path.{◌≡◌, refl, sym, ap, ◌∙◌}
use mathlib.Core.Bool.{true, ◌&&◌, and-eq-true_iff}
use mathlib.Core.List.{List, [], ◌∷◌, ◌++◌}
use Prim.Native.Nat.{ℕ}
use native.Mathlib.Omega.{arith}
use lib.ListN.{length, take, drop, length-drop, take-append-drop}
use lib.Seq.{length-take-le, take_at, drop_at, drop-drop}
use Rattle.text.specs.Text.{ascii}
use Rattle.session.specs.Format.{hex_text, frame_line}
use Rattle.session.proofs.Texts.{hex_length, frame_line_length}
use Rattle.session_lines.specs.Lines.{line_of, same_bytes, all_hex, hex_bytes, is_frame_line, frame_of}
use Rattle.session_lines.specs.Lines.{Seven}
use Rattle.session_lines.proofs.WholeLines.{line_first, same_is}
use Rattle.session_lines.proofs.HexDigits.{hex_plain}
use Rattle.session_lines.proofs.HexBytes.{text_hex, text_back, text_only}

-- the line of 14 digits
abbrev pub digits_line : List ℕ → List ℕ
digits_line ds = 102 ∷ 61 ∷ (ds ++ (10 ∷ []))

-- a frame's line is that of its 14 digits
pub digits_are : (l : List ℕ) → is_frame_line l ≡ true
    → (l ≡ digits_line (take 14 (drop 2 l))) × (all_hex (take 14 (drop 2 l)) ≡ true) × (length l ≡ 17) × (length (take 14 (drop 2 l)) ≡ 14)
unfolding is_frame_line
digits_are l e =
    let ds = take 14 (drop 2 l) in
    let p = (and-eq-true_iff (same_bytes (take 2 l) (ascii "f=") && all_hex ds) (same_bytes (drop 16 l) (ascii "\n"))).0 e in
    let q = (and-eq-true_iff (same_bytes (take 2 l) (ascii "f=")) (all_hex ds)).0 p.0 in
    let first : take 2 l ≡ 102 ∷ 61 ∷ [] = same_is (take 2 l) (ascii "f=") q.0 in
    let last : drop 16 l ≡ 10 ∷ [] = same_is (drop 16 l) (ascii "\n") p.1 in
    let size : length l ≡ 17 = omega (arith, ap length last, length-drop 16 l) in
    let rest : drop 2 l ≡ ds ++ (10 ∷ []) =
    sym (take-append-drop 14 (drop 2 l)) ∙ ap (λ (r : List ℕ). ds ++ r) (drop-drop 14 2 l ∙ last) in (
      sym (take-append-drop 2 l) ∙ (λ i. first i ++ rest i),
      q.1,
      size,
      length-take-le 14 (drop 2 l) (omega (arith, length-drop 2 l)),
    )

module _ (ds : List ℕ) (n : length ds ≡ 14) where
  -- 14 digits are found in their line
  digits_back : take 14 (drop 2 (digits_line ds)) ≡ ds
  digits_back = take_at ds (10 ∷ []) 14 n

  -- which is a frame's
  pub digits_line_lem : all_hex ds ≡ true → is_frame_line (digits_line ds) ≡ true
  unfolding is_frame_line
  digits_line_lem e = rw (digits_back, e, drop_at ds (10 ∷ []) 14 n) refl

-- a frame's line is that of the seven bytes in it
pub line_back : (l : List ℕ) → is_frame_line l ≡ true → (Seven (frame_of l)) × (l ≡ frame_line (frame_of l)) × (length l ≡ 17)
unfolding frame_of frame_line
line_back l e =
    let p = digits_are l e in
    let q = text_only (take 14 (drop 2 l)) 7 p.1 p.3 in
    ((q.1, q.2), p.0 ∙ ap digits_line (sym q.0), p.2)

module _ (f : List ℕ) (s : Seven f) where
  -- seven bytes have 14 digits
  digits_length : length (hex_text f) ≡ 14
  digits_length = omega (arith, hex_length f, s.0)

  -- the line of seven bytes is a frame's, and these are in it
  pub frame_back : (is_frame_line (frame_line f) ≡ true) × (frame_of (frame_line f) ≡ f) × (length (frame_line f) ≡ 17)
  unfolding frame_line frame_of
  frame_back = (
    digits_line_lem (hex_text f) digits_length (text_hex f s.1),
    ap hex_bytes (digits_back (hex_text f) digits_length) ∙ text_back f s.1,
    frame_line_length f s.0,
  )

-- a text that begins with the line of seven bytes has it as its first line
pub frame_line_first : (f rest : List ℕ) → Seven f → line_of (frame_line f ++ rest) ≡ frame_line f
unfolding frame_line
frame_line_first f rest s =
    line_first (102 ∷ 61 ∷ hex_text f) rest (λ e. omega arith, (λ e. omega arith, hex_plain (hex_text f) (text_hex f s.1)))
