-- A file that fills the program's buffer of 65,536 bytes is refused whatever follows: a good line has at most eleven bytes and its end, so a good
-- text has at most 38,400. Assumes nothing.
use mathlib.Core.Path.{◌≡◌, refl, ap, ◌∙◌}
use mathlib.Core.Bool.{Bool, true, false, ◌&&◌, cond, false≢true}
use mathlib.Core.List.{List, [], ◌∷◌}
use Prim.Native.Nat.{ℕ, zero, suc, ◌-◌, ◌*◌, ◌≤◌}
use native.Mathlib.Omega.{arith}
use lib.ListN.{length, drop, length-drop}
use Rattle.codebook_text.specs.Text.{line_of, is_ended, after_line, is_negative, unsigned, is_number, is_lines}
use Rattle.codebook_text.proofs.Lines.{line_rest}
use Rattle.codebook_text.proofs.Digits.{both, digits_parts, number_digits}

-- at most one byte stands before the digits
unsigned_le : (line : List ℕ) → length line ≤ suc (length (unsigned line))
unfolding unsigned
unsigned_le line = go (is_negative line)
  where
    go : (t : Bool) → length line ≤ suc (length (drop (cond t 1 0) line))
    go true = rw (length-drop 1 line) (omega arith)
    go false = omega arith

-- a good line
number_le : (line : List ℕ) → is_number line ≡ true → length line ≤ 11
number_le line h = omega (arith, unsigned_le line, (digits_parts (unsigned line) (number_digits line h)).1)

-- a good text
lines_le : (n : ℕ) (text : List ℕ) → is_lines n text ≡ true → length text ≤ 12 * n
unfolding is_lines
lines_le zero [] h = omega arith
lines_le zero (c ∷ cs) h = absurd (false≢true h)
lines_le (suc n) text h =
    let p = both (is_ended text && is_number (line_of text)) (is_lines n (after_line text)) h in
    let q = both (is_ended text) (is_number (line_of text)) p.0 in
    let e : length (after_line text) ≡ length text - suc (length (line_of text)) = ap length (line_rest text) ∙ length-drop (suc (length (line_of text))) text in
    omega (arith, e, number_le (line_of text) q.1, lines_le n (after_line text) p.1)

-- a text as long as the buffer
pub long_text_refused : (size : ℕ) (text : List ℕ) → size ≤ 3200 → 65536 ≤ length text → is_lines size text ≡ false
long_text_refused size text s l = go (is_lines size text) refl
  where
    go : (t : Bool) → is_lines size text ≡ t → t ≡ false
    go true e = absurd (omega (arith, lines_le size text e))
    go false e = refl
