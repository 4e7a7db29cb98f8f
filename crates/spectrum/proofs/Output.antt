-- The lines of a list's front, and the two forms of the text. Assumes nothing.
use mathlib.Core.Path.{◌≡◌, sym, ap, ◌∙◌}
use mathlib.Core.List.{List, [], ◌∷◌, ◌++◌, append-nil, append_assoc}
use Prim.Native.Nat.{ℕ, zero, suc, ◌≤◌, ◌<◌}
use native.Mathlib.Nat.{not-suc-le-zero, le_of_suc-le-suc}
use lib.ListN.{length, get_or, take}
use lib.IntN.{ℤ}
use lib.Seq.{length-take-le}
use Rattle.std.specs.Counts.{IsPrefixLen}
use Rattle.value_lines.specs.Lines.{value_line}
use Rattle.spectrum.specs.Lines.{lines}

-- the lines of one number more
pub lines_more : (xs : List ℤ) (i : ℕ) (d : ℤ) → i < length xs → lines (take (suc i) xs) ≡ lines (take i xs) ++ value_line (get_or xs i d)
unfolding lines
lines_more [] i d h = absurd (not-suc-le-zero h)
lines_more (x ∷ xs) zero d h = append-nil (value_line x)
lines_more (x ∷ xs) (suc i) d h =
    ap (λ (l : List ℕ). value_line x ++ l) (lines_more xs i d (le_of_suc-le-suc h)) ∙ sym (append_assoc (value_line x) (lines (take i xs)) (value_line (get_or xs i d)))

-- a number of bytes at the start of a buffer
pub counted : (n : ℕ) (out : List ℕ) → n ≤ length out → IsPrefixLen n out
counted n out h = (h, sym (length-take-le n out h))
