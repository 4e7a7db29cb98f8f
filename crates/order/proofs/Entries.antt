-- A list in which each number below n stands once, and which has n entries, has no others.
-- Assumes nothing.
use mathlib.Core.Path.{◌≡◌, refl, ◌∙◌}
use mathlib.Core.Bool.{Bool, true, false}
use mathlib.Core.List.{List, [], ◌∷◌}
use Prim.Native.Nat.{ℕ, zero, suc, ◌+◌, ◌≤◌, ◌<◌, zero-le}
use native.Mathlib.Nat.{not-suc-le-zero, le_of_suc-le-suc}
use native.Mathlib.Omega.{arith}
use lib.Dec.{eqb, ltb}
use lib.ListN.{length, get_or}
use borrow.Author.Tests.{eqb-true, eqb-false, ltb-true, ltb-false, le-ltb}
use Rattle.bits.specs.Bits.{add_one}
use Rattle.order.specs.Order.{times}

-- how many entries are below n
pub below : ℕ → List ℕ → ℕ
below n [] = zero
below n (x ∷ xs) = add_one (ltb x n) (below n xs)

-- below n + 1 are those below n and those that are n
pub below_suc : (n : ℕ) (l : List ℕ) → below (suc n) l ≡ below n l + times n l
unfolding below
below_suc n [] = refl
below_suc n (x ∷ xs) = go (ltb x (suc n)) (ltb x n) (eqb x n) refl refl refl (below_suc n xs)
  where
    go : (a b c : Bool) → ltb x (suc n) ≡ a → ltb x n ≡ b → eqb x n ≡ c → below (suc n) xs ≡ below n xs + times n xs
        → add_one a (below (suc n) xs) ≡ add_one b (below n xs) + add_one c (times n xs)
    go true true true ea eb ec ih = absurd (omega (arith, ltb-true x n eb, eqb-true x n ec))
    go true true false ea eb ec ih = omega arith
    go true false true ea eb ec ih = omega arith
    go true false false ea eb ec ih = absurd (eqb-false x n ec (omega (arith, ltb-true x (suc n) ea, ltb-false x n eb)))
    go false true c ea eb ec ih = absurd (omega (arith, ltb-false x (suc n) ea, ltb-true x n eb))
    go false false true ea eb ec ih = absurd (omega (arith, ltb-false x (suc n) ea, eqb-true x n ec))
    go false false false ea eb ec ih = omega arith

pub below_le : (n : ℕ) (l : List ℕ) → below n l ≤ length l
unfolding below
below_le n [] = zero-le
below_le n (x ∷ xs) = go (ltb x n) (below_le n xs)
  where
    go : (b : Bool) → below n xs ≤ length xs → add_one b (below n xs) ≤ suc (length xs)
    go true ih = omega arith
    go false ih = omega arith

below_zero : (l : List ℕ) → below zero l ≡ zero
unfolding below
below_zero [] = refl
below_zero (x ∷ xs) = rw (le-ltb x zero zero-le) (below_zero xs)

-- where each number below n stands once, n entries are below n
below_once : (l : List ℕ) (n : ℕ) → ((j : ℕ) → j < n → times j l ≡ 1) → below n l ≡ n
below_once l zero h = below_zero l
below_once l (suc n) h = below_suc n l ∙ omega (arith, below_once l n (λ j k. h j (omega arith)), h n (omega arith))

-- where all entries are below n, each is
all_below : (n : ℕ) (l : List ℕ) → below n l ≡ length l → (t : ℕ) → t < length l → get_or l t 0 < n
unfolding below
all_below n [] e t h = absurd (not-suc-le-zero h)
all_below n (x ∷ xs) e t h = go (ltb x n) refl (all_below n xs) e t h
  where
    go : (b : Bool) → ltb x n ≡ b → (below n xs ≡ length xs → (t : ℕ) → t < length xs → get_or xs t 0 < n) → add_one b (below n xs) ≡ suc (length xs)
        → (t : ℕ) → t < suc (length xs) → get_or (x ∷ xs) t 0 < n
    go true eb rest e zero h = ltb-true x n eb
    go true eb rest e (suc t) h = rest (omega arith) t (le_of_suc-le-suc h)
    go false eb rest e t h = absurd (omega (arith, below_le n xs))

-- so each entry is below n
pub entries_lt : (n : ℕ) (l : List ℕ) → length l ≡ n → ((j : ℕ) → j < n → times j l ≡ 1) → (t : ℕ) → t < length l → get_or l t 0 < n
entries_lt n l e h = all_below n l (below_once l n h ∙ omega arith)
