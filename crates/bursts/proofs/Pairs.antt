-- At most one bit of a part of a sequence is set exactly where no two are.
-- Assumes nothing.
use mathlib.Core.Path.{◌≡◌, refl, sym, ap, ◌∙◌}
use mathlib.Core.Bool.{Bool, true, false, false≢true}
use Prim.Native.Nat.{ℕ, zero, suc, ◌+◌, ◌≤◌, ◌<◌, zero-le}
use native.Mathlib.Omega.{arith}
use native.Mathlib.Decide.{ℕ_discrete}
use lib.Dec.{ltb}
use borrow.Author.Tests.{ltb-true, ltb-false}
use Rattle.bits.specs.Bits.{add_one, ones, cut}
use Rattle.bits.proofs.Count.{one_set}

module _ (g : ℕ → Bool) where
  -- where any two that are set are the same, at most one is
  pub few_set : (i n : ℕ) → ((j k : ℕ) → i ≤ j → j < i + n → i ≤ k → k < i + n → g j ≡ true → g k ≡ true → j ≡ k) → ones (cut g i n) ≤ 1
  few_set i zero h = zero-le
  few_set i (suc n) h = go (g i) refl (few_set (suc i) n (λ j k a b c d. h j k (omega arith) (omega arith) (omega arith) (omega arith)))
    where
      go : (b : Bool) → g i ≡ b → ones (cut g (suc i) n) ≤ 1 → ones (cut g i (suc n)) ≤ 1
      go true e rest = one_set g i i (suc n) (λ j a b f. h j i a b (omega arith) (omega arith) f e)
      go false e rest = rw e rest

  -- one that is set is counted
  set_counted : (i n k : ℕ) → i ≤ k → k < i + n → g k ≡ true → 1 ≤ ones (cut g i n)
  set_counted i zero k a b e = absurd (omega arith)
  set_counted i (suc n) k a b e = go (g i) refl (ℕ_discrete k i) (λ c. set_counted (suc i) n k c (omega arith) e)
    where
      go : (b : Bool) → g i ≡ b → Dec (k ≡ i) → (suc i ≤ k → 1 ≤ ones (cut g (suc i) n)) → 1 ≤ add_one b (ones (cut g (suc i) n))
      go true f d rest = omega arith
      go false f (yes q) rest = absurd (false≢true (sym f ∙ ap g (sym q) ∙ e))
      go false f (no q) rest = rest (omega arith)

  -- two that are set are counted
  two_counted : (i n j k : ℕ) → i ≤ j → j < k → k < i + n → g j ≡ true → g k ≡ true → 2 ≤ ones (cut g i n)
  two_counted i zero j k a b c e f = absurd (omega arith)
  two_counted i (suc n) j k a b c e f =
      go (g i) refl (ℕ_discrete j i) (set_counted (suc i) n k (omega arith) (omega arith) f) (λ l. two_counted (suc i) n j k l b (omega arith) e f)
    where
      go : (b : Bool) → g i ≡ b → Dec (j ≡ i) → 1 ≤ ones (cut g (suc i) n) → (suc i ≤ j → 2 ≤ ones (cut g (suc i) n)) → 2 ≤ add_one b (ones (cut g (suc i) n))
      go true p d one rest = omega arith
      go false p (yes q) one rest = absurd (false≢true (sym p ∙ ap g (sym q) ∙ e))
      go false p (no q) one rest = rest (omega arith)

  -- where at most one is set, any two are the same
  pub few_same : (i n : ℕ) → ones (cut g i n) ≤ 1 → (j k : ℕ) → i ≤ j → j < i + n → i ≤ k → k < i + n → g j ≡ true → g k ≡ true → j ≡ k
  few_same i n h j k a b c d e f = go (ltb j k) (ltb k j) refl refl
    where
      go : (x y : Bool) → ltb j k ≡ x → ltb k j ≡ y → j ≡ k
      go true y p q = absurd (omega (arith, two_counted i n j k a (ltb-true j k p) d e f))
      go false true p q = absurd (omega (arith, two_counted i n k j c (ltb-true k j q) b f e))
      go false false p q = omega (arith, ltb-false j k p, ltb-false k j q)
