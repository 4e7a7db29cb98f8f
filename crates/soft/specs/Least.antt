-- The least of some numbers by a key. A helper of document 02, T-05.
use Rattle.std.specs.Prelude.{ℕ, zero, suc, Bool, true, false, cond, ◌&&◌, ◌||◌, List, [], ◌∷◌, eqb, ltb}

-- whether a key comes before another: the first of its numbers that differ decide
abbrev pub precedes : List ℕ → List ℕ → Bool
precedes xs [] = false
precedes [] (y ∷ ys) = true
precedes (x ∷ xs) (y ∷ ys) = ltb x y || (eqb x y && precedes xs ys)

-- of the numbers below n the one whose key comes first, of equal keys the smaller number; 0 where there is none
unfoldable pub least_by : (ℕ → List ℕ) → ℕ → ℕ
least_by key zero = zero
least_by key (suc n) = cond (precedes (key n) (key (least_by key n))) n (least_by key n)
