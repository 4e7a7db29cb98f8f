-- The code word that is taken is a cheapest one. Another that costs as much erases word A, and nothing else erases a word.
-- Assumes nothing.
use mathlib.Core.Path.{◌≡◌, refl, sym, ap, ap₂, ◌∙◌}
use mathlib.Core.Bool.{Bool, true, false, cond, ◌&&◌}
use mathlib.Core.List.{List, [], ◌∷◌}
use Prim.Native.Nat.{ℕ, suc, ◌+◌, ◌-◌, ◌≤◌, ◌<◌}
use native.Mathlib.Nat.{zero-add}
use native.Mathlib.Omega.{arith}
use native.Mathlib.Decide.{ℕ_discrete}
use lib.Dec.{eqb, leb, ltb}
use borrow.Author.Tests.{ltb-true, ltb-false, le-ltb, eqb-true, eq-eqb, leb-true, le-leb}
use Rattle.std.specs.Prelude.{Option, None}
use Rattle.bits.specs.Bits.{add_one, ones, cut}
use Rattle.bits.proofs.Count.{ones_append, one_set}
use Rattle.bits.proofs.Cut.{cut_append}
use Rattle.hamming.specs.Word.{read_as}
use Rattle.hamming.specs.declared.Word.{Word}
use Rattle.soft.specs.Least.{precedes}
use Rattle.soft.specs.Choice.{code_words, differing, cost, key, chosen, cheapest, choose}
use Rattle.soft.specs.Claims.{Cheapest, Tied, Outcomes}
use Rattle.soft.proofs.Least.{least_first}
use Rattle.soft.proofs.Bounds.{chosen_lt}

-- a key that does not precede another has no smaller cost, and at the same cost no smaller data
not_precedes : (x y u v : ℕ) → (precedes (x ∷ u ∷ []) (y ∷ v ∷ []) ≡ true → ⊥) → (y ≤ x) × (x ≡ y → v ≤ u)
not_precedes x y u v h = (cost_part (ltb x y) refl, data_part (ltb u v) refl)
  where
    cost_part : (b : Bool) → ltb x y ≡ b → y ≤ x
    cost_part true e = absurd (h (simp e))
    cost_part false e = ltb-false x y e

    data_part : (b : Bool) → ltb u v ≡ b → x ≡ y → v ≤ u
    data_part true e p = absurd (h (simp (le-ltb x y (omega arith), eq-eqb x y p, e)))
    data_part false e p = ltb-false u v e

-- a number that passes a test is counted
counted : (f : ℕ → Bool) (k n : ℕ) → k < n → f k ≡ true → ones (cut f 0 k) < ones (cut f 0 n)
counted f k n h e =
    let m : ℕ = n - suc k in
    let all : k + suc m ≡ n = omega arith in
    let split : ones (cut f 0 n) ≡ ones (cut f 0 k) + suc (ones (cut f (suc (0 + k)) m)) =
    ap (λ (j : ℕ). ones (cut f 0 j)) (sym all) ∙ ap ones (cut_append f 0 k (suc m)) ∙ ones_append (cut f 0 k) (cut f (0 + k) (suc m))
    ∙ ap (λ (b : Bool). ones (cut f 0 k) + add_one b (ones (cut f (suc (0 + k)) m))) (ap f (zero-add k) ∙ e) in
    omega arith

-- so are two
two_set : (f : ℕ → Bool) (j k n : ℕ) → (j ≡ k → ⊥) → j < n → k < n → f j ≡ true → f k ≡ true → 2 ≤ ones (cut f 0 n)
two_set f j k n d hj hk ej ek = go (ltb j k) refl
  where
    go : (b : Bool) → ltb j k ≡ b → 2 ≤ ones (cut f 0 n)
    go true e = omega (arith, counted f j k (ltb-true j k e) ej, counted f k n hk ek)
    go false e =
        let less : k < j = omega (arith, ltb-false j k e) in
        omega (arith, counted f k j less ek, counted f j n hj ej)

module _ (n : ℕ) (q : List ℕ) (w : List Bool) where
  -- a cheapest code word is taken, of several the one with the smallest data
  pub chosen_cheapest : Cheapest n q w
  unfolding chosen
  chosen_cheapest = record {
    taken = chosen_lt n q w;
    least = λ u h. (beside u h).0;
    first = λ u h. (beside u h).1;
  }
    where
      beside : (u : ℕ) → u < code_words n → (cost n q w (chosen n q w) ≤ cost n q w u) × (cost n q w u ≡ cost n q w (chosen n q w) → chosen n q w ≤ u)
      beside u h = not_precedes (cost n q w u) (cost n q w (chosen n q w)) u (chosen n q w) (least_first (key n q w) (code_words n) u h)

  -- whether a code word costs as much as the one taken
  abbrev as_cheap : ℕ → Bool
  as_cheap u = eqb (cost n q w u) (cost n q w (chosen n q w))

  -- where another does, at least two do
  tied_two : Tied n q w → 2 ≤ cheapest n q w
  tied_two t =
      let own : ℕ = cost n q w (chosen n q w) in
      two_set as_cheap t.other (chosen n q w) (code_words n) t.differs t.inside chosen_cheapest.taken (eq-eqb _ own t.equal) (eq-eqb own own refl)

  -- where none does, it is the only one
  single_one : (Tied n q w → ⊥) → cheapest n q w ≤ 1
  single_one no_other = one_set as_cheap (chosen n q w) 0 (code_words n) (λ u a b e. go u (omega arith) (eqb-true _ _ e) (ℕ_discrete u (chosen n q w)))
    where
      go : (u : ℕ) → u < code_words n → cost n q w u ≡ cost n q w (chosen n q w) → Dec (u ≡ chosen n q w) → u ≡ chosen n q w
      go u h e (yes p) = p
      go u h e (no d) = absurd (no_other (record { other = u; inside = h; differs = d; equal = e }))

  -- the outcome by its two tests: whether the word is A, and whether there are two cheapest or more
  abbrev erased_or_read : Bool → Bool → Option Word
  erased_or_read a b = cond (a && b) None (read_as (chosen n q w) (ones (differing n w (chosen n q w))))

  -- two or more cheapest erase word A, and any other word is read
  pub outcomes_are : Outcomes n q w
  unfolding choose
  outcomes_are = record {
    tied = λ e t. ap₂ erased_or_read (eq-eqb n 8 e) (le-leb 2 (cheapest n q w) (tied_two t));
    single = go (eqb n 8) (leb 2 (cheapest n q w)) refl refl;
  }
    where
      go : (a b : Bool) → eqb n 8 ≡ a → leb 2 (cheapest n q w) ≡ b → (n ≡ 8 → Tied n q w → ⊥) → erased_or_read a b ≡ erased_or_read false b
      go true true ea eb s = absurd (omega (arith, leb-true 2 (cheapest n q w) eb, single_one (s (eqb-true n 8 ea))))
      go true false ea eb s = refl
      go false b ea eb s = refl
