-- A test that antt computes at every number below n, and the laws that hand it over at one of them.
-- Assumes nothing.
use mathlib.Core.Path.{◌≡◌, refl, sym, subst}
use mathlib.Core.Bool.{Bool, true, false, ◌&&◌, false≢true}
use mathlib.Core.List.{List, [], ◌∷◌}
use Prim.Native.Nat.{ℕ, zero, suc, ◌<◌}
use native.Mathlib.Nat.{not-suc-le-zero}
use native.Mathlib.Omega.{arith}
use native.Mathlib.Decide.{ℕ_discrete}
use lib.Dec.{T, eqb, eqb→eq}
use lib.ListN.{get_or}
use Rattle.bits.specs.Lists.{every}

-- the halves of a test of two
pub and_left : (a b : Bool) → T (a && b) → T a
and_left true b t = tt
and_left false b t = t

pub and_right : (a b : Bool) → T (a && b) → T b
and_right true b t = t
and_right false b t = absurd t

-- a test of two passes where both do
pub and_both : (a b : Bool) → T a → T b → T (a && b)
and_both true b t u = u
and_both false b t u = t

-- a chain of tests, joined from the left
abbrev pub chain : Bool → List Bool → Bool
chain a [] = a
chain a (b ∷ bs) = chain (a && b) bs

chain_first : (a : Bool) (bs : List Bool) → T (chain a bs) → T a
chain_first a [] t = t
chain_first a (b ∷ bs) t = and_left a b (chain_first (a && b) bs t)

-- each test of a chain that passes has passed
pub chain_at : (a : Bool) (bs : List Bool) → T (chain a bs) → (k : ℕ) → T (get_or (a ∷ bs) k true)
chain_at a bs t zero = chain_first a bs t
chain_at a [] t (suc k) = tt
chain_at true (b ∷ bs) t (suc k) = chain_at b bs t k
chain_at false (b ∷ bs) t (suc k) = absurd (chain_first false bs t)

-- a test passed is true
pub T_true : (b : Bool) → b ≡ true → T b
T_true b e = subst T (sym e) tt

-- and the other way round
pub true_T : (b : Bool) → T b → b ≡ true
true_T true t = refl
true_T false t = absurd t

-- the second test is asked only where the first passes
abbrev pub implies : Bool → Bool → Bool
implies true b = b
implies false b = true

pub implies_at : (a b : Bool) → T (implies a b) → a ≡ true → T b
implies_at true b t h = t
implies_at false b t h = absurd (false≢true h)

-- a test that passes at every number below n passes at each
pub every_at : (n : ℕ) (f : ℕ → Bool) → T (every n f) → (k : ℕ) → k < n → T (f k)
every_at zero f t k h = absurd (not-suc-le-zero h)
every_at (suc n) f t k h = go (every_at n f (and_right (f n) (every n f) t) k) (ℕ_discrete k n)
  where
    go : (k < n → T (f k)) → Dec (k ≡ n) → T (f k)
    go rest (yes e) = subst (λ (m : ℕ). T (f m)) (sym e) (and_left (f n) (every n f) t)
    go rest (no d) = rest (omega arith)

-- an equation at every number below n
pub equal_at : (n : ℕ) (f g : ℕ → ℕ) → T (every n (λ k. eqb (f k) (g k))) → (k : ℕ) → k < n → f k ≡ g k
equal_at n f g t k h = eqb→eq (f k) (g k) (every_at n (λ k. eqb (f k) (g k)) t k h)
