-- The first line of a text and what follows it, by its length and by the place where it starts. Assumes nothing.
use mathlib.Core.Path.{◌≡◌, refl, sym, ap, ◌∙◌}
use mathlib.Core.Bool.{Bool, true, false, not, ◌||◌, cond}
use mathlib.Core.List.{List, [], ◌∷◌}
use Prim.Native.Nat.{ℕ, suc, ◌+◌, ◌≤◌}
use native.Mathlib.Numerals.{add-one}
use native.Mathlib.Omega.{arith}
use lib.Dec.{eqb, ltb, leb-suc-suc}
use lib.ListN.{length, take, drop}
use borrow.Author.Tests.{lt-ltb}
use Rattle.std.specs.Prelude.{Option, None, Some}
use Rattle.std.specs.List.{position_or_len}
use Rattle.codebook_text.specs.Text.{line_of, is_ended, after_line}

-- a line is no longer than the text
pub line_le : (t : List ℕ) → length (line_of t) ≤ length t
unfolding line_of
line_le [] = omega arith
line_le (c ∷ cs) = go (eqb c 10) (line_le cs)
  where
    go : (b : Bool) → length (line_of cs) ≤ length cs → length (cond b [] (c ∷ line_of cs)) ≤ suc (length cs)
    go true h = omega arith
    go false h = omega arith

-- a line is the front of its text
pub line_front : (t : List ℕ) → take (length (line_of t)) t ≡ line_of t
unfolding line_of
line_front [] = refl
line_front (c ∷ cs) = go (eqb c 10) (line_front cs)
  where
    go : (b : Bool) → take (length (line_of cs)) cs ≡ line_of cs
        → take (length (cond b [] (c ∷ line_of cs))) (c ∷ cs) ≡ cond b [] (c ∷ line_of cs)
    go true h = refl
    go false h = ap (λ (l : List ℕ). c ∷ l) h

-- what follows the line comes after its length and one byte more
pub line_rest : (t : List ℕ) → after_line t ≡ drop (suc (length (line_of t))) t
unfolding line_of after_line
line_rest [] = refl
line_rest (c ∷ cs) = go (eqb c 10) (line_rest cs)
  where
    go : (b : Bool) → after_line cs ≡ drop (suc (length (line_of cs))) cs
        → cond b cs (after_line cs) ≡ drop (length (cond b [] (c ∷ line_of cs))) cs
    go true h = refl
    go false h = h

-- a line is ended where it is shorter than the text
pub line_ended : (t : List ℕ) → is_ended t ≡ ltb (length (line_of t)) (length t)
unfolding line_of is_ended
line_ended [] = refl
line_ended (c ∷ cs) = go (eqb c 10) (line_ended cs)
  where
    go : (b : Bool) → is_ended cs ≡ ltb (length (line_of cs)) (length cs)
        → b || is_ended cs ≡ ltb (length (cond b [] (c ∷ line_of cs))) (suc (length cs))
    go true h = sym (lt-ltb 0 (suc (length cs)) (omega arith))
    go false h = h ∙ sym (leb-suc-suc (suc (length (line_of cs))) (length cs))

-- the first line end is where the line's length says
pub line_end : (t : List ℕ) → position_or_len (λ (c : ℕ). eqb c 10) t ≡ length (line_of t)
unfolding line_of
line_end [] = refl
line_end (c ∷ cs) = go (eqb c 10) (line_end cs)
  where
    go : (b : Bool) → position_or_len (λ (c : ℕ). eqb c 10) cs ≡ length (line_of cs)
        → cond (not b) (1 + position_or_len (λ (c : ℕ). eqb c 10) cs) 0 ≡ length (cond b [] (c ∷ line_of cs))
    go true h = refl
    go false h = omega (arith, h)

-- what is found of it: where there is none no line is ended, and else the line and what follows it stand before and past it
pub record Found (t : List ℕ) (e : ℕ) : Type 0 where
  pub ended : is_ended t ≡ true
  pub line : take e t ≡ line_of t
  pub rest : drop (e + 1) t ≡ after_line t

pub unended : (t : List ℕ) (r : Option ℕ) → r ≡ cond (ltb (length (line_of t)) (length t)) (Some (length (line_of t))) None → r ≡ None → is_ended t ≡ false
unended t r e n = line_ended t ∙ go (ltb (length (line_of t)) (length t)) (sym n ∙ e)
  where
    go : (b : Bool) → None ≡ cond b (Some (length (line_of t))) None → b ≡ false
    go true h = cc
    go false h = refl

pub found : (t : List ℕ) (r : Option ℕ) (k : ℕ) → r ≡ cond (ltb (length (line_of t)) (length t)) (Some (length (line_of t))) None → r ≡ Some k → Found t k
found t r k e n =
    let p = go (ltb (length (line_of t)) (length t)) (sym n ∙ e) in
    record { ended = line_ended t ∙ p.0; line = rw p.1 (line_front t); rest = rw (add-one, p.1) (sym (line_rest t)) }
  where
    go : (b : Bool) → Some k ≡ cond b (Some (length (line_of t))) None → (b ≡ true) × (k ≡ length (line_of t))
    go true h = (refl, cc)
    go false h = cc
