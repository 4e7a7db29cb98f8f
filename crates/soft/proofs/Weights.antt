-- Sums of confidences over the bits that are set.
-- Assumes nothing.
use mathlib.Core.Path.{◌≡◌, refl, ap}
use mathlib.Core.Bool.{Bool, true, false}
use mathlib.Core.List.{List, [], ◌∷◌, ◌++◌, map}
use Prim.Native.Nat.{ℕ, ◌+◌, ◌*◌, ◌≤◌, ◌<◌}
use native.Mathlib.Nat.{mul-suc}
use native.Mathlib.Omega.{arith}
use lib.ListN.{length, replicate}
use Rattle.bits.specs.Bits.{◌⊻◌, ◌⊕◌, ones}
use Rattle.bits.specs.Lists.{Every}
use Rattle.soft.specs.Choice.{weigh}
use Rattle.soft.specs.Prices.{price}

-- of two lists joined
pub weigh_append : (q r : List ℕ) (e f : List Bool) → length q ≡ length e → weigh (q ++ r) (e ++ f) ≡ weigh q e + weigh r f
weigh_append [] r [] f h = omega arith
weigh_append [] r (b ∷ e) f h = absurd (omega arith)
weigh_append (x ∷ q) r [] f h = absurd (omega arith)
weigh_append (x ∷ q) r (true ∷ e) f h = omega (arith, weigh_append q r e f (omega arith))
weigh_append (x ∷ q) r (false ∷ e) f h = weigh_append q r e f (omega arith)

-- of prices: 16 times that of the confidences, and the number of ones
pub weigh_priced : (q : List ℕ) (e : List Bool) → length q ≡ length e → weigh (map price q) e ≡ weigh q e * 16 + ones e
weigh_priced [] [] h = refl
weigh_priced [] (b ∷ e) h = absurd (omega arith)
weigh_priced (x ∷ q) [] h = absurd (omega arith)
weigh_priced (x ∷ q) (true ∷ e) h = omega (arith, weigh_priced q e (omega arith))
weigh_priced (x ∷ q) (false ∷ e) h = weigh_priced q e (omega arith)

-- at most so many times the largest
pub weigh_le : (m : ℕ) (q : List ℕ) (e : List Bool) → Every (λ x. x ≤ m) q → weigh q e ≤ m * length q
weigh_le m [] e h = omega arith
weigh_le m (x ∷ q) [] h = omega arith
weigh_le m (x ∷ q) (true ∷ e) h = rw (mul-suc m (length q)) (omega (arith, h.0, weigh_le m q e h.1))
weigh_le m (x ∷ q) (false ∷ e) h = rw (mul-suc m (length q)) (omega (arith, weigh_le m q e h.1))

-- nothing where no bit is set
pub weigh_none : (q : List ℕ) (e : List Bool) → ones e ≡ 0 → weigh q e ≡ 0
weigh_none [] e h = refl
weigh_none (x ∷ q) [] h = refl
weigh_none (x ∷ q) (true ∷ e) h = absurd (omega arith)
weigh_none (x ∷ q) (false ∷ e) h = weigh_none q e h

-- something where one is, and all confidences are above 0
pub weigh_some : (q : List ℕ) (e : List Bool) → length q ≡ length e → Every (λ x. 0 < x) q → 0 < ones e → 0 < weigh q e
weigh_some [] [] l h k = k
weigh_some [] (b ∷ e) l h k = absurd (omega arith)
weigh_some (x ∷ q) [] l h k = absurd (omega arith)
weigh_some (x ∷ q) (true ∷ e) l h k = omega (arith, h.0)
weigh_some (x ∷ q) (false ∷ e) l h k = weigh_some q e (omega arith) h.1 k

-- of equal confidences: one of them for each bit set
pub weigh_equal : (k : ℕ) (e : List Bool) → weigh (replicate (length e) k) e ≡ k * ones e
weigh_equal k [] = omega arith
weigh_equal k (true ∷ e) = rw (mul-suc k (ones e)) (omega (arith, weigh_equal k e))
weigh_equal k (false ∷ e) = weigh_equal k e

-- two sums of bits side by side
pub sum_append : (a b c d : List Bool) → length a ≡ length c → (a ++ b) ⊕ (c ++ d) ≡ (a ⊕ c) ++ (b ⊕ d)
sum_append [] b [] d h = refl
sum_append [] b (y ∷ c) d h = absurd (omega arith)
sum_append (x ∷ a) b [] d h = absurd (omega arith)
sum_append (x ∷ a) b (y ∷ c) d h = ap (λ (l : List Bool). (x ⊻ y) ∷ l) (sum_append a b c d (omega arith))
