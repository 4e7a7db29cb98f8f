-- Tests at every number below n, and the largest number that passes one.
-- Assumes nothing.
use mathlib.Core.Path.{◌≡◌, refl, sym, ap, ◌∙◌}
use mathlib.Core.Bool.{Bool, true, false, cond, ◌&&◌, false≢true}
use Prim.Native.Nat.{ℕ, zero, suc, ◌≤◌, ◌<◌}
use native.Mathlib.Omega.{arith}
use native.Mathlib.Decide.{ℕ_discrete}
use lib.Dec.{T}
use Rattle.bits.specs.Lists.{every}
use Rattle.bits.proofs.Tests.{and_both, T_true, true_T, every_at}
use Rattle.bursts.specs.Width.{largest}

-- a test that passes at each number below n passes at every one
pub every_all : (n : ℕ) (f : ℕ → Bool) → ((k : ℕ) → k < n → T (f k)) → T (every n f)
every_all zero f h = tt
every_all (suc n) f h = and_both (f n) (every n f) (h n (omega arith)) (every_all n f (λ k l. h k (omega arith)))

-- a number below n at which a test fails
pub record FailsAt (n : ℕ) (f : ℕ → Bool) : Type 0 where
  pub at : ℕ
  pub below : at < n
  pub fails : f at ≡ false

-- a test that does not pass at every number fails at one
pub every_fails : (n : ℕ) (f : ℕ → Bool) → every n f ≡ false → FailsAt n f
every_fails zero f e = absurd (false≢true (sym e))
every_fails (suc n) f e = go (f n) refl (every_fails n f) e
  where
    go : (b : Bool) → f n ≡ b → (every n f ≡ false → FailsAt n f) → (b && every n f) ≡ false → FailsAt (suc n) f
    go true p rest e = let r = rest e in record { at = r.at; below = omega (arith, r.below); fails = r.fails }
    go false p rest e = record { at = n; below = omega arith; fails = p }

-- nor does it where it fails at one
pub fails_every : (n : ℕ) (f : ℕ → Bool) (k : ℕ) → k < n → f k ≡ false → every n f ≡ false
fails_every n f k h e = go (every n f) refl
  where
    go : (b : Bool) → every n f ≡ b → b ≡ false
    go true p = absurd (false≢true (sym e ∙ true_T (f k) (every_at n f (T_true (every n f) p) k h)))
    go false p = refl

module _ (f : ℕ → Bool) where
  -- no larger number passes
  pub largest_above : (m n : ℕ) → largest m f < n → n ≤ m → f n ≡ false
  largest_above zero n h l = absurd (omega arith)
  largest_above (suc m) n h l = go (f (suc m)) refl (ℕ_discrete n (suc m)) (largest_above m n) h
    where
      go : (b : Bool) → f (suc m) ≡ b → Dec (n ≡ suc m) → (largest m f < n → n ≤ m → f n ≡ false) → cond b (suc m) (largest m f) < n → f n ≡ false
      go true e d rest h = absurd (omega arith)
      go false e (yes q) rest h = rw q e
      go false e (no q) rest h = rest h (omega arith)

  -- it passes, if there is any
  pub largest_passes : (m : ℕ) → 1 ≤ largest m f → T (f (largest m f))
  largest_passes zero h = absurd (omega arith)
  largest_passes (suc m) h = go (f (suc m)) refl (largest_passes m) h
    where
      go : (b : Bool) → f (suc m) ≡ b → (1 ≤ largest m f → T (f (largest m f))) → 1 ≤ cond b (suc m) (largest m f) → T (f (cond b (suc m) (largest m f)))
      go true e rest h = T_true (f (suc m)) e
      go false e rest h = rest h

  -- a number that passes while no larger one does is it
  pub largest_is : (m d : ℕ) → d ≤ m → T (f d) → ((n : ℕ) → d < n → n ≤ m → f n ≡ false) → largest m f ≡ d
  largest_is zero d l t h = omega arith
  largest_is (suc m) d l t h = go (f (suc m)) refl (ℕ_discrete d (suc m)) (largest_is m d) t
    where
      go : (b : Bool) → f (suc m) ≡ b → Dec (d ≡ suc m) → (d ≤ m → T (f d) → ((n : ℕ) → d < n → n ≤ m → f n ≡ false) → largest m f ≡ d) → T (f d)
          → cond b (suc m) (largest m f) ≡ d
      go true e (yes q) rest t = sym q
      go true e (no q) rest t = absurd (false≢true (sym (h (suc m) (omega arith) (omega arith)) ∙ e))
      go false e (yes q) rest t = absurd (false≢true (sym e ∙ ap f (sym q) ∙ true_T (f d) t))
      go false e (no q) rest t = rest (omega arith) t (λ n a b. h n a (omega arith))
