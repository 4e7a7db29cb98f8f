-- The first line of a text is a front of the text. Assumes nothing.
use mathlib.Core.Path.{◌≡◌, refl, ap}
use mathlib.Core.Bool.{Bool, true, false, cond}
use mathlib.Core.List.{List, [], ◌∷◌}
use Prim.Native.Nat.{ℕ, suc, ◌≤◌}
use native.Mathlib.Omega.{arith}
use lib.Dec.{eqb}
use lib.ListN.{length, take}
use Rattle.session_lines.specs.Lines.{line_of}

-- a line is no longer than the text
pub line_le : (t : List ℕ) → length (line_of t) ≤ length t
unfolding line_of
line_le [] = omega arith
line_le (c ∷ cs) = go (eqb c 10) (line_le cs)
  where
    go : (b : Bool) → length (line_of cs) ≤ length cs → length (cond b (c ∷ []) (c ∷ line_of cs)) ≤ suc (length cs)
    go true h = omega arith
    go false h = omega arith

-- a line is the front of its text
pub line_front : (t : List ℕ) → take (length (line_of t)) t ≡ line_of t
unfolding line_of
line_front [] = refl
line_front (c ∷ cs) = go (eqb c 10) (line_front cs)
  where
    go : (b : Bool) → take (length (line_of cs)) cs ≡ line_of cs
        → take (length (cond b (c ∷ []) (c ∷ line_of cs))) (c ∷ cs) ≡ cond b (c ∷ []) (c ∷ line_of cs)
    go true h = refl
    go false h = ap (λ (l : List ℕ). c ∷ l) h
