-- A test that antt computes at every list of n bits with at most k ones, and the laws that hand it over at one of them.
-- Assumes nothing.
use mathlib.Core.Path.{◌≡◌, refl, ap₂}
use mathlib.Core.Bool.{Bool, true, false, ◌&&◌, beq}
use mathlib.Core.List.{List, [], ◌∷◌}
use Prim.Native.Nat.{ℕ, zero, suc, ◌≤◌}
use native.Mathlib.Nat.{le_of_suc-le-suc, not-suc-le-zero}
use native.Mathlib.Omega.{arith}
use lib.Dec.{T}
use lib.ListN.{length}
use Rattle.bits.specs.Bits.{ones, same}
use Rattle.bits.proofs.Tests.{and_left, and_right}
use Rattle.bits.proofs.Count.{ones_le}

-- a test at every list of n bits with at most k ones
abbrev pub patterns : ℕ → ℕ → (List Bool → Bool) → Bool
patterns k zero f = f []
patterns zero (suc n) f = patterns zero n (λ l. f (false ∷ l))
patterns (suc k) (suc n) f = patterns (suc k) n (λ l. f (false ∷ l)) && patterns k n (λ l. f (true ∷ l))

-- it holds at each of them
pub patterns_at : (k n : ℕ) (f : List Bool → Bool) → T (patterns k n f) → (l : List Bool) → length l ≡ n → ones l ≤ k → T (f l)
patterns_at k zero f t [] e h = t
patterns_at k zero f t (b ∷ l) e h = absurd (omega arith)
patterns_at zero (suc n) f t [] e h = absurd (omega arith)
patterns_at zero (suc n) f t (false ∷ l) e h = patterns_at zero n (λ l. f (false ∷ l)) t l (omega arith) h
patterns_at zero (suc n) f t (true ∷ l) e h = absurd (not-suc-le-zero h)
patterns_at (suc k) (suc n) f t [] e h = absurd (omega arith)
patterns_at (suc k) (suc n) f t (false ∷ l) e h =
    patterns_at (suc k) n (λ l. f (false ∷ l)) (and_left (patterns (suc k) n (λ l. f (false ∷ l))) (patterns k n (λ l. f (true ∷ l))) t) l (omega arith) h
patterns_at (suc k) (suc n) f t (true ∷ l) e h =
    patterns_at k n (λ l. f (true ∷ l)) (and_right (patterns (suc k) n (λ l. f (false ∷ l))) (patterns k n (λ l. f (true ∷ l))) t) l (omega arith)
    (le_of_suc-le-suc h)

-- a test at every list of n bits
abbrev pub all_patterns : ℕ → (List Bool → Bool) → Bool
all_patterns n f = patterns n n f

-- it holds at each of them
pub all_patterns_at : (n : ℕ) (f : List Bool → Bool) → T (all_patterns n f) → (l : List Bool) → length l ≡ n → T (f l)
all_patterns_at n f t l e = patterns_at n n f t l e (omega (arith, ones_le l))

beq_eq : (a b : Bool) → T (beq a b) → a ≡ b
beq_eq true true t = refl
beq_eq true false t = absurd t
beq_eq false true t = absurd t
beq_eq false false t = refl

-- lists that pass the test of sameness are equal
pub same_eq : (l m : List Bool) → T (same l m) → l ≡ m
same_eq [] [] t = refl
same_eq [] (b ∷ ys) t = absurd t
same_eq (a ∷ xs) [] t = absurd t
same_eq (a ∷ xs) (b ∷ ys) t =
    ap₂ (λ (x : Bool) (xs : List Bool). x ∷ xs) (beq_eq a b (and_left (beq a b) (same xs ys) t)) (same_eq xs ys (and_right (beq a b) (same xs ys) t))
