-- A buffer with a text in it: its length, the part up to the end of the text, one byte, and one text after another. Assumes nothing.
use mathlib.Core.Path.{◌≡◌, refl, sym, ap, ◌∙◌}
use mathlib.Core.List.{List, [], ◌∷◌, ◌++◌, append_assoc}
use Prim.Native.Nat.{ℕ, ◌+◌, ◌≤◌, ◌<◌}
use native.Mathlib.Omega.{arith}
use native.Mathlib.Numerals.{add-one}
use lib.ListN.{length, take, drop, set, length-append, length-drop}
use lib.Seq.{take_at, drop-drop, drop-append-add, set_split, append_snoc, length-take-le}
use Rattle.text.specs.Placing.{written, Appended}

-- what stands up to the end of the text
head_length : (text : List ℕ) (at : ℕ) (out : List ℕ) → at ≤ length out → length (take at out ++ text) ≡ at + length text
head_length text at out h = length-append (take at out) text ∙ ap (λ (k : ℕ). k + length text) (length-take-le at out h)

pub written_length : (text : List ℕ) (at : ℕ) (out : List ℕ) → at + length text ≤ length out → length (written text at out) ≡ length out
written_length text at out h =
    let rest = drop (at + length text) out in
    length-append (take at out ++ text) rest ∙ omega (arith, head_length text at out (omega arith), length-drop (at + length text) out)

-- the text is appended to what stands before it
pub written_appended : (text : List ℕ) (at : ℕ) (out : List ℕ) → at ≤ length out → Appended out at text (written text at out) (at + length text)
written_appended text at out h =
    (refl, take_at (take at out ++ text) (drop (at + length text) out) (at + length text) (head_length text at out h))

-- one byte stored
pub written_one : (out : List ℕ) (at b : ℕ) → at < length out → set out at b ≡ written (b ∷ []) at out
written_one out at b h = rw add-one (set_split out at b h ∙ sym (append_snoc (take at out) b _))

-- one text after the other
pub written_append : (xs ys : List ℕ) (at : ℕ) (out : List ℕ) → at ≤ length out
    → written ys (at + length xs) (written xs at out) ≡ written (xs ++ ys) at out
written_append xs ys at out h =
    let head = take at out ++ xs in
    let rest = drop (at + length xs) out in
    let e : length head ≡ at + length xs = head_length xs at out h in
    let n : at + length xs + length ys ≡ at + length (xs ++ ys) = omega (arith, length-append xs ys) in
    let first : take (at + length xs) (head ++ rest) ++ ys ≡ take at out ++ (xs ++ ys) =
    ap (λ (l : List ℕ). l ++ ys) (take_at head rest (at + length xs) e) ∙ append_assoc (take at out) xs ys in
    let last : drop (at + length xs + length ys) (head ++ rest) ≡ drop (at + length (xs ++ ys)) out =
    ap (λ (k : ℕ). drop (k + length ys) (head ++ rest)) (sym e)
    ∙ drop-append-add head rest (length ys)
    ∙ drop-drop (length ys) (at + length xs) out
    ∙ ap (λ (k : ℕ). drop k out) n in
    λ i. first i ++ last i
