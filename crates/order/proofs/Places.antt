-- Any order: the place of a bit and the bit at a place are inverse.
-- Assumes nothing.
use mathlib.Core.Path.{◌≡◌, refl, ap}
use mathlib.Core.Bool.{Bool, true, false, cond}
use mathlib.Core.List.{List, [], ◌∷◌}
use Prim.Native.Nat.{ℕ, zero, suc, ◌<◌, zero-le, suc-le-suc}
use native.Mathlib.Nat.{not-suc-le-zero, le_of_suc-le-suc}
use native.Mathlib.Omega.{arith}
use lib.Dec.{eqb}
use lib.ListN.{length, get_or}
use borrow.Author.Tests.{eqb-true, eqb-false}
use Rattle.bits.specs.Bits.{add_one}
use Rattle.order.specs.Order.{times, Order, place_of}
use Rattle.order.proofs.Entries.{entries_lt}

-- a number that stands in a list is found, at a place of the list
place_found : (l : List ℕ) (j : ℕ) → (times j l ≡ 0 → ⊥) → (get_or l (place_of l j) 0 ≡ j) × (place_of l j < length l)
unfolding place_of
place_found [] j h = absurd (h refl)
place_found (x ∷ xs) j h = go (eqb x j) refl (place_found xs j) h
  where
    go : (b : Bool) → eqb x j ≡ b → ((times j xs ≡ 0 → ⊥) → (get_or xs (place_of xs j) 0 ≡ j) × (place_of xs j < length xs)) → (add_one b (times j xs) ≡ 0 → ⊥)
        → (get_or (x ∷ xs) (cond b zero (suc (place_of xs j))) 0 ≡ j) × (cond b zero (suc (place_of xs j)) < suc (length xs))
    go true e rest h = (eqb-true x j e, suc-le-suc zero-le)
    go false e rest h = ((rest h).0, suc-le-suc (rest h).1)

-- a number that stands at t is counted
entry_counted : (l : List ℕ) (j t : ℕ) → t < length l → get_or l t 0 ≡ j → times j l ≡ 0 → ⊥
entry_counted [] j t h e z = not-suc-le-zero h
entry_counted (x ∷ xs) j t h e z = go (eqb x j) refl (entry_counted xs j) t h e z
  where
    go : (b : Bool) → eqb x j ≡ b → ((t : ℕ) → t < length xs → get_or xs t 0 ≡ j → times j xs ≡ 0 → ⊥) → (t : ℕ) → t < suc (length xs)
        → get_or (x ∷ xs) t 0 ≡ j → add_one b (times j xs) ≡ 0 → ⊥
    go true eb rest t h e z = omega arith
    go false eb rest zero h e z = eqb-false x j eb e
    go false eb rest (suc t) h e z = rest t (le_of_suc-le-suc h) e z

-- a number that stands once is found where it stands
place_unique : (l : List ℕ) (j t : ℕ) → t < length l → get_or l t 0 ≡ j → times j l ≡ 1 → place_of l j ≡ t
unfolding place_of
place_unique [] j t h e z = absurd (not-suc-le-zero h)
place_unique (x ∷ xs) j t h e z = go (eqb x j) refl (place_unique xs j) t h e z
  where
    go : (b : Bool) → eqb x j ≡ b → ((t : ℕ) → t < length xs → get_or xs t 0 ≡ j → times j xs ≡ 1 → place_of xs j ≡ t)
        → (t : ℕ) → t < suc (length xs) → get_or (x ∷ xs) t 0 ≡ j → add_one b (times j xs) ≡ 1 → cond b zero (suc (place_of xs j)) ≡ t
    go true eb rest zero h e z = refl
    go true eb rest (suc t) h e z = absurd (entry_counted xs j t (le_of_suc-le-suc h) e (omega arith))
    go false eb rest zero h e z = absurd (eqb-false x j eb e)
    go false eb rest (suc t) h e z = ap suc (rest t (le_of_suc-le-suc h) e z)

module _ (ord : List ℕ) (o : Order ord) where
  -- an entry is a logical number
  pub entry_lt : (t : ℕ) → t < 54 → get_or ord t 0 < 54
  entry_lt t h = entries_lt 54 ord o.size o.once t (omega (arith, o.size))

  -- the bit at the place of j is j
  pub entry_back : (j : ℕ) → j < 54 → get_or ord (place_of ord j) 0 ≡ j
  entry_back j h = (place_found ord j (λ z. omega (arith, o.once j h))).0

  -- a place is below 54
  pub place_lt : (j : ℕ) → j < 54 → place_of ord j < 54
  place_lt j h = omega (arith, (place_found ord j (λ z. omega (arith, o.once j h))).1, o.size)

  -- the place of the bit at t is t
  pub place_back : (t : ℕ) → t < 54 → place_of ord (get_or ord t 0) ≡ t
  place_back t h = place_unique ord (get_or ord t 0) t (omega (arith, o.size)) refl (o.once (get_or ord t 0) (entry_lt t h))
