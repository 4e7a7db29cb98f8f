-- The least key as one number: a cost and the data below it. One code word more changes the least where its number is smaller.
-- Assumes nothing.
use mathlib.Core.Path.{◌≡◌, refl, sym, ap, ◌∙◌}
use mathlib.Core.Bool.{Bool, true, false, cond, ◌||◌, or-false, and-false}
use mathlib.Core.List.{List, [], ◌∷◌}
use Prim.Native.Nat.{ℕ, suc, ◌+◌, ◌*◌, ◌≤◌, ◌<◌, min}
use native.Mathlib.Numerals.{add-one}
use native.Mathlib.Omega.{arith}
use lib.Dec.{eqb, ltb}
use borrow.Author.Tests.{ltb-true, ltb-false, lt-ltb, le-ltb}
use Rattle.soft.specs.Least.{precedes, least_by}
use Rattle.soft.specs.Prices.{cost_in, key_number}
use Rattle.soft.proofs.Precedes.{last_decides}
use Rattle.soft.proofs.Least.{least_le}

-- keys of one cost each and the data: the costs decide, where the data of the second are not larger
pub cost_decides : (x y u v : ℕ) → v ≤ u → precedes (x ∷ u ∷ []) (y ∷ v ∷ []) ≡ ltb x y
cost_decides x y u v h =
    last_decides (x ∷ []) (y ∷ []) u v refl h ∙ ap (λ (b : Bool). ltb x y || b) (and-false (eqb x y)) ∙ or-false (ltb x y)

-- so do the numbers of such keys
number_decides : (x y u v : ℕ) → v ≤ u → u < 16 → ltb (x * 16 + u) (y * 16 + v) ≡ ltb x y
number_decides x y u v h k = go (ltb x y) refl
  where
    go : (b : Bool) → ltb x y ≡ b → ltb (x * 16 + u) (y * 16 + v) ≡ b
    go true e = lt-ltb (x * 16 + u) (y * 16 + v) (omega (arith, ltb-true x y e))
    go false e = le-ltb (x * 16 + u) (y * 16 + v) (omega (arith, ltb-false x y e))

module _ (prices : List ℕ) where
  abbrev pub key_in : ℕ → List ℕ
  key_in u = cost_in prices u ∷ u ∷ []

  -- one more
  least_more : (i : ℕ) → i < 16 → least_by key_in (suc i) ≡ cond (ltb (key_number prices i) (key_number prices (least_by key_in i))) i (least_by key_in i)
  unfolding least_by
  least_more i h =
      let b : ℕ = least_by key_in i in
      let le = least_le key_in i in
      ap (λ (t : Bool). cond t i b) (cost_decides (cost_in prices i) (cost_in prices b) i b le ∙ sym (number_decides (cost_in prices i) (cost_in prices b) i b le h))

  -- its number is the smaller of two
  pub number_more : (i : ℕ) → i < 16
      → key_number prices (least_by key_in (i + 1)) ≡ min (key_number prices (least_by key_in i)) (key_number prices i)
  number_more i h = rw add-one (ap (key_number prices) (least_more i h) ∙ go (ltb (key_number prices i) (key_number prices (least_by key_in i))) refl)
    where
      go : (t : Bool) → ltb (key_number prices i) (key_number prices (least_by key_in i)) ≡ t
          → key_number prices (cond t i (least_by key_in i)) ≡ min (key_number prices (least_by key_in i)) (key_number prices i)
      go true e = omega (arith, ltb-true _ _ e)
      go false e = omega (arith, ltb-false _ _ e)
