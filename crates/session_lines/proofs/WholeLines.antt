-- The first line of a text against a line with its LF: it is that line where the text begins with it. Assumes nothing.
use mathlib.Core.Path.{◌≡◌, refl, ap, ◌∙◌}
use mathlib.Core.Bool.{Bool, true, false, ◌&&◌, cond, and-eq-true_iff, false≢true}
use mathlib.Core.List.{List, [], ◌∷◌, ◌++◌}
use Prim.Native.Nat.{ℕ}
use lib.Dec.{eqb}
use borrow.Author.Tests.{eq-eqb, ne_eqb, eqb-true}
use Rattle.bits.specs.Lists.{Every}
use Rattle.session_lines.specs.Lines.{line_of, same_bytes}
use Rattle.session_lines.specs.Scans.{begins}
use Rattle.session_lines.proofs.Scans.{eqb_comm}

-- bytes of which none ends a line
abbrev pub Plain : List ℕ → Type 0
Plain body = Every (λ b. b ≡ 10 → ⊥) body

-- a line of such bytes, with its end
abbrev pub ended : List ℕ → List ℕ
ended body = body ++ (10 ∷ [])

-- the first line of a text is a line with its end where the text begins with it
pub line_begins : (body t : List ℕ) → Plain body → same_bytes (line_of t) (ended body) ≡ begins (ended body) t
unfolding line_of begins
line_begins [] [] p = refl
line_begins (b ∷ bs) [] p = refl
line_begins [] (c ∷ cs) p = go (eqb c 10) refl
  where
    go : (t : Bool) → eqb c 10 ≡ t → same_bytes (cond t (c ∷ []) (c ∷ line_of cs)) (10 ∷ []) ≡ eqb 10 c && true
    go true e = rw (eqb_comm c 10) refl
    go false e = rw (← eqb_comm c 10, e) refl
line_begins (b ∷ bs) (c ∷ cs) (n, p) = go (eqb c 10) refl (line_begins bs cs p)
  where
    go : (t : Bool) → eqb c 10 ≡ t → same_bytes (line_of cs) (ended bs) ≡ begins (ended bs) cs
        → same_bytes (cond t (c ∷ []) (c ∷ line_of cs)) (b ∷ ended bs) ≡ eqb b c && begins (ended bs) cs
    go true e h = rw (eqb_comm c b, ne_eqb b c (λ q. n (q ∙ eqb-true c 10 e))) refl
    go false e h = rw (eqb_comm c b, h) refl

-- the first line of a text that begins with a line and its end is that one
pub line_first : (body rest : List ℕ) → Plain body → line_of (ended body ++ rest) ≡ ended body
unfolding line_of
line_first [] rest p = refl
line_first (b ∷ bs) rest (n, p) = rw (ne_eqb b 10 n) (ap (λ (l : List ℕ). b ∷ l) (line_first bs rest p))

-- lines of the same bytes are the same
pub same_is : (l m : List ℕ) → same_bytes l m ≡ true → l ≡ m
same_is [] [] e = refl
same_is [] (b ∷ bs) e = absurd (false≢true e)
same_is (a ∷ ls) [] e = absurd (false≢true e)
same_is (a ∷ ls) (b ∷ bs) e =
    let p = (and-eq-true_iff (eqb a b) (same_bytes ls bs)).0 e in
    λ i. eqb-true a b p.0 i ∷ same_is ls bs p.1 i

-- a line has the same bytes as itself
pub same_back : (l : List ℕ) → same_bytes l l ≡ true
same_back [] = refl
same_back (a ∷ ls) = rw (eq-eqb a a refl) (same_back ls)
