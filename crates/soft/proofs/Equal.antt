-- All confidences equal and above 0 choose as confidences of 1 do. With those the outcome is the one without any, by a test at every word.
-- Assumes nothing.
use mathlib.Core.Path.{◌≡◌, refl, sym, ap, ap₂, ◌∙◌}
use mathlib.Core.Bool.{Bool, true, false, not, cond, ◌&&◌, ◌||◌}
use mathlib.Core.List.{List, [], ◌∷◌}
use Prim.Native.Nat.{ℕ, ◌*◌, ◌≤◌, ◌<◌}
use native.Mathlib.Nat.{mul-le-mul_left, mul-lt-mul_of_pos_left, eq_of_mul-eq-mul_left}
use native.Mathlib.Omega.{arith}
use lib.Dec.{T, eqb, leb, ltb}
use lib.ListN.{length, replicate}
use borrow.Author.Tests.{ltb-true, ltb-false, lt-ltb, le-ltb, eqb-true, eqb-false, eq-eqb, ne_eqb}
use Rattle.std.specs.Prelude.{None}
use Rattle.bits.specs.Bits.{ones, cut, same}
use Rattle.bits.proofs.Tests.{T_true, implies, implies_at}
use Rattle.bits.proofs.Patterns.{all_patterns, all_patterns_at, same_eq}
use Rattle.hamming.specs.Word.{syndrome, spare_column, fix_of, decode, read_as}
use Rattle.hamming.proofs.Lengths.{lengths_at}
use Rattle.hamming.proofs.Repairs.{same_read, same_read_eq}
use Rattle.soft.specs.Least.{precedes, least_by}
use Rattle.soft.specs.Choice.{code_words, weigh, differing, cost, key, chosen, cheapest, choose}
use Rattle.soft.proofs.Weights.{weigh_equal}
use Rattle.soft.proofs.Least.{least_alike}
use Rattle.soft.proofs.Splitting.{differing_length}

-- multiples by a number above 0 compare as the numbers do
module _ (k : ℕ) (h : 0 < k) where
  less_times : (x y : ℕ) → ltb (k * x) (k * y) ≡ ltb x y
  less_times x y = go (ltb x y) refl
    where
      go : (b : Bool) → ltb x y ≡ b → ltb (k * x) (k * y) ≡ b
      go true e = lt-ltb (k * x) (k * y) (mul-lt-mul_of_pos_left (ltb-true x y e) h)
      go false e = le-ltb (k * x) (k * y) (mul-le-mul_left k (ltb-false x y e))

  equal_times : (x y : ℕ) → eqb (k * x) (k * y) ≡ eqb x y
  equal_times x y = go (eqb x y) refl
    where
      go : (b : Bool) → eqb x y ≡ b → eqb (k * x) (k * y) ≡ b
      go true e = eq-eqb (k * x) (k * y) (ap (λ (z : ℕ). k * z) (eqb-true x y e))
      go false e = ne_eqb (k * x) (k * y) (λ p. eqb-false x y e (eq_of_mul-eq-mul_left k h x y p))

  -- costs k times as high leave all as it is
  module _ (n : ℕ) (q r : List ℕ) (w : List Bool) (times : (u : ℕ) → cost n q w u ≡ k * cost n r w u) where
    -- the data that are taken
    chosen_same : chosen n q w ≡ chosen n r w
    unfolding chosen
    chosen_same = least_alike (key n q w) (key n r w) (code_words n) (λ u v h k. alike u v)
      where
        alike : (u v : ℕ) → precedes (key n q w u) (key n q w v) ≡ precedes (key n r w u) (key n r w v)
        alike u v =
            ap₂ (λ (x y : ℕ). precedes (x ∷ u ∷ []) (y ∷ v ∷ [])) (times u) (times v)
            ∙ ap₂ (λ (s t : Bool). s || (t && precedes (u ∷ []) (v ∷ []))) (less_times (cost n r w u) (cost n r w v)) (equal_times (cost n r w u) (cost n r w v))

    -- the count of the cheapest
    cheapest_same : cheapest n q w ≡ cheapest n r w
    cheapest_same = λ i. ones (cut (λ u. as_cheap_lem u i) 0 (code_words n))
      where
        as_cheap_lem : (u : ℕ) → eqb (cost n q w u) (cost n q w (chosen n q w)) ≡ eqb (cost n r w u) (cost n r w (chosen n r w))
        as_cheap_lem u =
            ap₂ eqb (times u) (times (chosen n q w)) ∙ equal_times (cost n r w u) (cost n r w (chosen n q w))
            ∙ ap (λ (v : ℕ). eqb (cost n r w u) (cost n r w v)) chosen_same

    -- the outcome
    choose_same : choose n q w ≡ choose n r w
    unfolding choose
    choose_same = λ i. cond (eqb n 8 && leb 2 (cheapest_same i)) None (read_as (chosen_same i) (ones (differing n w (chosen_same i))))

-- equal confidences cost as many times the number of places that differ
cost_equal : (n k : ℕ) (w : List Bool) → length w ≡ n → (u : ℕ) → cost n (replicate n k) w u ≡ k * ones (differing n w u)
cost_equal n k w e u = ap (λ (j : ℕ). weigh (replicate j k) (differing n w u)) (sym (differing_length n w u e)) ∙ weigh_equal k (differing n w u)

-- word B with the spare's syndrome
abbrev spare_shown : ℕ → List Bool → Bool
spare_shown n w = eqb n 6 && same (syndrome 6 w) spare_column

-- any other word has with confidences of 1 the outcome without any
as_decoded : ℕ → List Bool → Bool
as_decoded n w = implies (not (spare_shown n w)) (same_read (choose n (replicate n 1) w) (decode n w))

all_decoded : ℕ → Bool
all_decoded n = all_patterns n (as_decoded n)

module _ (n : ℕ) (l : 6 ≤ n) (m : n ≤ 8) where
  all_decoded_lem : T (all_decoded n)
  unfolding all_decoded as_decoded least_by chosen choose fix_of decode
  all_decoded_lem = lengths_at all_decoded tt n l m

  -- so it has with all confidences equal and above 0
  pub choose_equal : (k : ℕ) → 0 < k → (w : List Bool) → length w ≡ n → (n ≡ 6 → syndrome 6 w ≡ spare_column → ⊥) → choose n (replicate n k) w ≡ decode n w
  unfolding all_decoded as_decoded
  choose_equal k h w e shown =
      choose_same k h n (replicate n k) (replicate n 1) w times ∙ same_read_eq _ _ (implies_at _ _ (all_patterns_at n (as_decoded n) all_decoded_lem w e) other)
    where
      times : (u : ℕ) → cost n (replicate n k) w u ≡ k * cost n (replicate n 1) w u
      times u = cost_equal n k w e u ∙ ap (λ (x : ℕ). k * x) (omega (arith, cost_equal n 1 w e u))

      go : (a b : Bool) → eqb n 6 ≡ a → same (syndrome 6 w) spare_column ≡ b → not (a && b) ≡ true
      go true true ea eb = absurd (shown (eqb-true n 6 ea) (same_eq _ _ (T_true _ eb)))
      go true false ea eb = refl
      go false b ea eb = refl

      other : not (spare_shown n w) ≡ true
      other = go (eqb n 6) (same (syndrome 6 w) spare_column) refl refl
