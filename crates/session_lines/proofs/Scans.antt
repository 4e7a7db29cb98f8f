-- A text compared with bytes that it may begin with, all at once and byte by byte. Assumes nothing.
use mathlib.Core.Path.{◌≡◌, refl, sym, ap, ◌∙◌}
use mathlib.Core.Bool.{Bool, true, false, ◌&&◌, and_assoc, and-eq-true_iff, false≢true}
use mathlib.Core.List.{List, [], ◌∷◌, ◌++◌}
use Prim.Native.Nat.{ℕ, zero, suc, ◌≤◌}
use native.Mathlib.Nat.{not-suc-le-zero, le_of_suc-le-suc}
use lib.Dec.{eqb}
use lib.ListN.{length, take, drop}
use borrow.Author.Tests.{eq-eqb, ne_eqb, eqb-true, eqb-false}
use Rattle.std.specs.Cmp.Lexicographic.{pointwise}
use Rattle.session_lines.specs.Scans.{begins}

-- a text that begins with bytes is these and what follows them
pub begins_is : (w t : List ℕ) → begins w t ≡ true → t ≡ w ++ drop (length w) t
unfolding begins
begins_is [] t e = refl
begins_is (b ∷ bs) [] e = absurd (false≢true e)
begins_is (b ∷ bs) (c ∷ cs) e =
    let p = (and-eq-true_iff (eqb b c) (begins bs cs)).0 e in
    λ i. sym (eqb-true b c p.0) i ∷ begins_is bs cs p.1 i

-- to begin with bytes and others is to begin with the first and then with the others
pub begins_join : (v w t : List ℕ) → begins (v ++ w) t ≡ begins v t && begins w (drop (length v) t)
unfolding begins
begins_join [] w t = refl
begins_join (b ∷ bs) w [] = refl
begins_join (b ∷ bs) w (c ∷ cs) =
    ap (λ (t : Bool). eqb b c && t) (begins_join bs w cs) ∙ sym (and_assoc (eqb b c) (begins bs cs) (begins w (drop (length bs) cs)))

-- only as many bytes of a text count as there are to compare
pub begins_take : (w t : List ℕ) (n : ℕ) → length w ≤ n → begins w (take n t) ≡ begins w t
unfolding begins
begins_take [] t n h = refl
begins_take (b ∷ bs) t zero h = absurd (not-suc-le-zero h)
begins_take (b ∷ bs) [] (suc n) h = refl
begins_take (b ∷ bs) (c ∷ cs) (suc n) h = ap (λ (t : Bool). eqb b c && t) (begins_take bs cs n (le_of_suc-le-suc h))

-- a test for equal numbers is that of their exchange
pub eqb_comm : (a b : ℕ) → eqb a b ≡ eqb b a
eqb_comm a b = go (eqb a b) refl
  where
    go : (t : Bool) → eqb a b ≡ t → t ≡ eqb b a
    go true e = sym (eq-eqb b a (sym (eqb-true a b e)))
    go false e = sym (ne_eqb b a (λ q. eqb-false a b e (sym q)))

-- std's test that it starts with these bytes
pub starts_with_is : (w t : List ℕ) → pointwise eqb w (take (length w) t) ≡ begins w t
unfolding begins
starts_with_is [] t = refl
starts_with_is (b ∷ bs) [] = refl
starts_with_is (b ∷ bs) (c ∷ cs) = ap (λ (s : Bool). eqb b c && s) (starts_with_is bs cs)

-- and its test of a front against them
pub starts : (w t : List ℕ) → pointwise eqb (take (length w) t) w ≡ begins w t
unfolding begins
starts [] t = refl
starts (b ∷ bs) [] = refl
starts (b ∷ bs) (c ∷ cs) = rw (eqb_comm c b, starts bs cs) refl
