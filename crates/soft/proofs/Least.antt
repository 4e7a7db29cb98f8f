-- The least by a key is one that no other precedes.
-- Assumes nothing.
use mathlib.Core.Path.{◌≡◌, refl, sym, ap, ap₂, ◌∙◌, subst}
use mathlib.Core.Bool.{Bool, true, false, cond, true≢false}
use mathlib.Core.List.{List}
use Prim.Native.Nat.{ℕ, zero, suc, ◌+◌, ◌≤◌, ◌<◌}
use native.Mathlib.Nat.{add-zero, add-suc}
use native.Mathlib.Omega.{arith}
use native.Mathlib.Decide.{ℕ_discrete}
use Rattle.soft.specs.Least.{precedes, least_by}
use Rattle.soft.proofs.Precedes.{precedes_self, precedes_trans}

module _ (key : ℕ → List ℕ) where
  -- the least of at least one is one of them
  pub least_lt : (n : ℕ) → 0 < n → least_by key n < n
  unfolding least_by
  least_lt zero h = absurd (omega arith)
  least_lt (suc zero) h = go (precedes (key 0) (key 0))
    where
      go : (b : Bool) → cond b 0 0 < 1
      go true = omega arith
      go false = omega arith
  least_lt (suc (suc n)) h = go (precedes (key (suc n)) (key (least_by key (suc n)))) (least_lt (suc n) (omega arith))
    where
      go : (b : Bool) → least_by key (suc n) < suc n → cond b (suc n) (least_by key (suc n)) < suc (suc n)
      go true l = omega arith
      go false l = omega arith

  -- the least so far is not past those that were looked at
  pub least_le : (n : ℕ) → least_by key n ≤ n
  unfolding least_by
  least_le zero = omega arith
  least_le (suc n) = omega (arith, least_lt (suc n) (omega arith))

  -- none of them precedes it
  pub least_first : (n u : ℕ) → u < n → precedes (key u) (key (least_by key n)) ≡ true → ⊥
  unfolding least_by
  least_first zero u h = absurd (omega arith)
  least_first (suc n) u h = go (precedes (key n) (key (least_by key n))) refl (ℕ_discrete u n) (λ l. least_first n u l)
    where
      go : (b : Bool) → precedes (key n) (key (least_by key n)) ≡ b → Dec (u ≡ n) → (u < n → precedes (key u) (key (least_by key n)) ≡ true → ⊥)
          → precedes (key u) (key (cond b n (least_by key n))) ≡ true → ⊥
      go true e (yes f) rest p = precedes_self (key n) (subst (λ (v : ℕ). precedes (key v) (key n) ≡ true) f p)
      go true e (no f) rest p = rest (omega arith) (precedes_trans (key u) (key n) (key (least_by key n)) p e)
      go false e (yes f) rest p = true≢false (sym (subst (λ (v : ℕ). precedes (key v) (key (least_by key n)) ≡ true) f p) ∙ e)
      go false e (no f) rest p = rest (omega arith) p

-- keys that compare alike have the same least
pub least_alike : (key other : ℕ → List ℕ) (n : ℕ) → ((u v : ℕ) → u < n → v < n → precedes (key u) (key v) ≡ precedes (other u) (other v))
    → least_by key n ≡ least_by other n
unfolding least_by
least_alike key other zero e = refl
least_alike key other (suc n) e =
    let b : least_by key n ≡ least_by other n = least_alike key other n (λ u v h k. e u v (omega arith) (omega arith)) in
    let test = e n (least_by key n) (omega arith) (omega (arith, least_le key n)) ∙ ap (λ (v : ℕ). precedes (other n) (other v)) b in
    λ i. cond (test i) n (b i)

-- so have keys that are the same
pub least_ext : (key other : ℕ → List ℕ) (n : ℕ) → ((u : ℕ) → u < n → key u ≡ other u) → least_by key n ≡ least_by other n
least_ext key other n e = least_alike key other n (λ u v h k. ap₂ precedes (e u h) (e v k))

-- what does not precede it leaves it
pub least_past : (key : ℕ → List ℕ) (k j : ℕ) → ((u : ℕ) → k ≤ u → u < k + j → precedes (key u) (key (least_by key k)) ≡ false) → least_by key (k + j) ≡ least_by key k
unfolding least_by
least_past key k zero h = ap (least_by key) (add-zero k)
least_past key k (suc j) h =
    let b : least_by key (k + j) ≡ least_by key k = least_past key k j (λ u l m. h u l (omega arith)) in
    let no : precedes (key (k + j)) (key (least_by key (k + j))) ≡ false = ap (λ (v : ℕ). precedes (key (k + j)) (key v)) b ∙ h (k + j) (omega arith) (omega arith) in
    ap (least_by key) (add-suc k j) ∙ ap (λ (t : Bool). cond t (k + j) (least_by key (k + j))) no ∙ b
