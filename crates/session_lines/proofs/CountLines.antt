-- The third line: its end, and that its number is what its digits write. Assumes nothing.
use mathlib.Core.Path.{◌≡◌, ap, ◌∙◌}
use mathlib.Core.Bool.{Bool, true, false, cond}
use mathlib.Core.List.{List, [], ◌∷◌, ◌++◌}
use Prim.Native.Nat.{ℕ, zero, suc, ◌+◌, ◌/◌, ◌%◌, ◌≤◌}
use native.Mathlib.Omega.{arith}
use lib.Dec.{ltb}
use lib.ListN.{length, take, drop, length-append}
use borrow.Author.Tests.{le-leb}
use Rattle.bits.specs.Ascii.{digit_byte}
use Rattle.text.specs.Text.{ascii, digits, decimal}
use Rattle.session.proofs.Elements.{every_append}
use Rattle.session.specs.Format.{count_line, most_frames}
use Rattle.session_lines.specs.Lines.{line_of, same_bytes, digits_value, count_of, is_count_line}
use Rattle.session_lines.specs.Scans.{begins}
use Rattle.session_lines.proofs.Scans.{begins_is}
use Rattle.session_lines.proofs.WholeLines.{Plain, line_begins, line_first, same_back}
use Rattle.session_lines.proofs.Values.{value_line_lem}
use Rattle.session_lines.proofs.Numbers.{value_line_end}

-- no digit of a number ends a line
digits_plain : (k n : ℕ) → Plain (digits k n)
unfolding digits
digits_plain zero n = tt
digits_plain (suc k) n = go (ltb n 10) (digits_plain k (n / 10))
  where
    go : (t : Bool) → Plain (digits k (n / 10)) → Plain (cond t (digit_byte n ∷ []) (digits k (n / 10) ++ (digit_byte (n % 10) ∷ [])))
    go true p = omega arith
    go false p = every_append (λ b. b ≡ 10 → ⊥) (digits k (n / 10)) (digit_byte (n % 10) ∷ []) p (omega arith)

-- a third line before its end
abbrev count_body : ℕ → List ℕ
count_body n = ascii "frames=" ++ decimal n

count_plain : (n : ℕ) → Plain (count_body n)
unfolding decimal
count_plain n = every_append (λ b. b ≡ 10 → ⊥) (ascii "frames=") (decimal n) (omega arith) (digits_plain (suc n) n)

-- the first line of a text is a third line where the text begins with it
pub count_begins : (n : ℕ) (t : List ℕ) → same_bytes (line_of t) (count_line n) ≡ begins (count_line n) t
unfolding count_line
count_begins n t = line_begins (count_body n) t (count_plain n)

-- a third line comes first in what begins with it
pub count_first : (n : ℕ) (rest : List ℕ) → line_of (count_line n ++ rest) ≡ count_line n
unfolding count_line
count_first n rest = line_first (count_body n) rest (count_plain n)

-- the third line has eight bytes around its digits
pub count_length : (n : ℕ) → length (count_line n) ≡ length (decimal n) + 8
unfolding count_line
count_length n = omega (arith, length-append (decimal n) (ascii "\n"))

-- a third line for at most 2,000 frames has its own number
pub count_value : (n : ℕ) → n ≤ most_frames → count_of (count_line n) ≡ n
unfolding count_line
count_value n h = value_line_end n (omega arith)

-- and is one to the reader
pub count_good : (n : ℕ) → n ≤ most_frames → is_count_line (count_line n) ≡ true
unfolding is_count_line
count_good n h = rw (count_value n h, le-leb n most_frames h) (same_back (count_line n))

-- in a text that begins with the name, the digits after it write the number of its line
pub count_digits : (t : List ℕ) → begins (ascii "frames=") t ≡ true → count_of (line_of t) ≡ digits_value 0 (take 4 (drop 7 t))
unfolding line_of
count_digits t e =
    let r = drop 7 t in
    ap (λ (l : List ℕ). count_of (line_of l)) (begins_is (ascii "frames=") t e) ∙ value_line_lem 4 0 r
