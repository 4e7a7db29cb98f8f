-- The text of a session: of frames one after the other, and how long it is. Assumes nothing.
use mathlib.Core.Path.{◌≡◌, refl, sym, ap, ◌∙◌}
use mathlib.Core.List.{List, [], ◌∷◌, ◌++◌, append-nil, append_assoc}
use Prim.Native.Nat.{ℕ, ◌+◌, ◌*◌, ◌/◌, ◌≤◌, ◌<◌}
use native.Mathlib.Omega.{arith}
use native.Mathlib.Numerals.{add-one}
use lib.ListN.{length, get_or, take, length-append}
use lib.Seq.{take-suc}
use Rattle.bits.specs.Lists.{Every}
use Rattle.text.specs.Text.{ascii, decimal}
use Rattle.text.proofs.Decimals.{decimal_length}
use Rattle.session.specs.Format.{count_line, hex_pair, hex_text, frame_line, frame_lines, header, session_text, most_frames, most_text}
use Rattle.session.specs.Writing.{frames_of, text_of}
use Rattle.session.proofs.Frames.{frames_length, frames_sized}

-- bytes after bytes
hex_append : (xs ys : List ℕ) → hex_text (xs ++ ys) ≡ hex_text xs ++ hex_text ys
unfolding hex_text
hex_append [] ys = refl
hex_append (x ∷ xs) ys = ap (λ (l : List ℕ). hex_pair x ++ l) (hex_append xs ys)

-- one byte more
pub hex_more : (xs : List ℕ) (i : ℕ) → i < length xs → hex_text (take (i + 1) xs) ≡ hex_text (take i xs) ++ hex_pair (get_or xs i 0)
unfolding hex_text
hex_more xs i h = rw add-one (ap hex_text (take-suc xs i 0 h) ∙ hex_append (take i xs) (get_or xs i 0 ∷ []))

-- a byte has two digits
pub hex_length : (xs : List ℕ) → length (hex_text xs) ≡ 2 * length xs
unfolding hex_text
hex_length [] = refl
hex_length (x ∷ xs) = omega (arith, hex_length xs)

-- the line of a frame has 17 bytes
pub frame_line_length : (f : List ℕ) → length f ≡ 7 → length (frame_line f) ≡ 17
unfolding frame_line
frame_line_length f h = omega (arith, length-append (hex_text f) (ascii "\n"), hex_length f)

-- so have those of frames each
pub frame_lines_length : (fs : List (List ℕ)) → Every (λ f. length f ≡ 7) fs → length (frame_lines fs) ≡ 17 * length fs
unfolding frame_lines
frame_lines_length [] h = refl
frame_lines_length (f ∷ fs) h =
    length-append (frame_line f) (frame_lines fs) ∙ omega (arith, frame_line_length f h.0, frame_lines_length fs h.1)

-- frames after frames
pub frame_lines_append : (xs ys : List (List ℕ)) → frame_lines (xs ++ ys) ≡ frame_lines xs ++ frame_lines ys
unfolding frame_lines
frame_lines_append [] ys = refl
frame_lines_append (f ∷ xs) ys =
    ap (λ (l : List ℕ). frame_line f ++ l) (frame_lines_append xs ys) ∙ sym (append_assoc (frame_line f) (frame_lines xs) (frame_lines ys))

-- one frame more
pub frame_lines_more : (fs : List (List ℕ)) (k : ℕ) → k < length fs → frame_lines (take (k + 1) fs) ≡ frame_lines (take k fs) ++ frame_line (get_or fs k [])
unfolding frame_lines
frame_lines_more fs k h =
    rw add-one (ap frame_lines (take-suc fs k [] h) ∙ frame_lines_append (take k fs) (get_or fs k [] ∷ []) ∙ ap (λ (l : List ℕ). frame_lines (take k fs) ++ l) (append-nil (frame_line (get_or fs k []))))

-- the three lines have 30 bytes and the digits of the number
pub header_length : (n : ℕ) → length (header n) ≡ 30 + length (decimal n)
unfolding header count_line
header_length n = omega (arith, length-append (decimal n) (ascii "\n"))

-- the text of whole frames
pub text_length : (bytes : List ℕ) → length (text_of bytes) ≡ length (header (length bytes / 7)) + 17 * (length bytes / 7)
unfolding session_text
text_length bytes =
    let n = frames_length bytes in
    length-append (header (length (frames_of bytes))) (frame_lines (frames_of bytes))
    ∙ ap (λ (k : ℕ). length (header (length (frames_of bytes))) + k) (frame_lines_length (frames_of bytes) (frames_sized bytes))
    ∙ ap (λ (k : ℕ). length (header k) + 17 * k) n

-- at most 2,000 frames have at most 34,034 bytes
pub text_le : (bytes : List ℕ) → length bytes / 7 ≤ most_frames → length (text_of bytes) ≤ most_text
text_le bytes h =
    let n : ℕ = length bytes / 7 in
    omega (arith, text_length bytes, header_length n, decimal_length 3 n (omega arith))
