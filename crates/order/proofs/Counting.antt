-- The pigeonhole: a list of n entries in which each number below n stands at all has each of them once.
-- Assumes nothing.
use mathlib.Core.Path.{◌≡◌, subst}
use mathlib.Core.List.{List}
use Prim.Native.Nat.{ℕ, zero, suc, ◌≤◌, ◌<◌}
use native.Mathlib.Omega.{arith}
use native.Mathlib.Decide.{ℕ_discrete}
use lib.ListN.{length}
use Rattle.order.specs.Order.{times}
use Rattle.order.proofs.Entries.{below, below_suc, below_le}

module _ (l : List ℕ) where
  -- where each number below n stands, n entries or more are below n
  below_many : (n : ℕ) → ((j : ℕ) → j < n → 1 ≤ times j l) → n ≤ below n l
  below_many zero h = omega arith
  below_many (suc n) h = omega (arith, below_suc n l, below_many n (λ j k. h j (omega arith)), h n (omega arith))

  -- and one more where one of them stands twice
  below_more : (n : ℕ) → ((j : ℕ) → j < n → 1 ≤ times j l) → (k : ℕ) → k < n → 1 < times k l → suc n ≤ below n l
  below_more zero h k q two = absurd (omega arith)
  below_more (suc n) h k q two = go (below_more n (λ j m. h j (omega arith)) k) (ℕ_discrete k n)
    where
      many : n ≤ below n l
      many = below_many n (λ j m. h j (omega arith))

      go : (k < n → 1 < times k l → suc n ≤ below n l) → Dec (k ≡ n) → suc (suc n) ≤ below (suc n) l
      go rest (yes e) = omega (arith, below_suc n l, many, subst (λ (m : ℕ). 1 < times m l) e two)
      go rest (no d) = omega (arith, below_suc n l, rest (omega arith) two, h n (omega arith))

  -- so in n entries each stands once
  pub stands_once : (n : ℕ) → length l ≡ n → ((j : ℕ) → j < n → 1 ≤ times j l) → (k : ℕ) → k < n → times k l ≡ 1
  stands_once n e h k q = go (ℕ_discrete (times k l) 1)
    where
      go : Dec (times k l ≡ 1) → times k l ≡ 1
      go (yes one) = one
      go (no d) = absurd (omega (arith, below_more n h k q (omega (arith, h k q)), below_le n l))
