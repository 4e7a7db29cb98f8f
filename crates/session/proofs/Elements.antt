-- A claim about every element of a list: it holds of each part of the list, of two lists joined, and of cuts by their entries. Assumes nothing.
use mathlib.Core.List.{List, [], ◌∷◌, ◌++◌}
use Prim.Native.Nat.{ℕ, zero, suc, ◌+◌, ◌≤◌, ◌<◌}
use native.Mathlib.Omega.{arith}
use lib.ListN.{take, drop}
use Rattle.bits.specs.Bits.{cut}
use Rattle.bits.specs.Lists.{Every}

module _ {A : Type 0} (P : A → Type 0) where
  -- of the first n elements
  pub every_take : (n : ℕ) (l : List A) → Every P l → Every P (take n l)
  every_take zero l h = tt
  every_take (suc n) [] h = tt
  every_take (suc n) (x ∷ l) h = (h.0, every_take n l h.1)

  -- of all but the first n
  pub every_drop : (n : ℕ) (l : List A) → Every P l → Every P (drop n l)
  every_drop zero l h = h
  every_drop (suc n) [] h = tt
  every_drop (suc n) (x ∷ l) h = every_drop n l h.1

  -- of two lists joined
  pub every_append : (xs ys : List A) → Every P xs → Every P ys → Every P (xs ++ ys)
  every_append [] ys h k = k
  every_append (x ∷ xs) ys h k = (h.0, every_append xs ys h.1 k)

  -- of a cut, where it holds of each entry
  pub every_cut : (g : ℕ → A) (i n : ℕ) → ((j : ℕ) → i ≤ j → j < i + n → P (g j)) → Every P (cut g i n)
  every_cut g i zero h = tt
  every_cut g i (suc n) h = (h i (omega arith) (omega arith), every_cut g (suc i) n (λ j a b. h j (omega arith) (omega arith)))

-- a weaker claim follows
pub every_weaker : {A : Type 0} (P Q : A → Type 0) → ((x : A) → P x → Q x) → (l : List A) → Every P l → Every Q l
every_weaker P Q f [] h = tt
every_weaker P Q f (x ∷ l) h = (f x h.0, every_weaker P Q f l h.1)
