-- How many entries of a list pass a test.
-- Assumes nothing.
use mathlib.Core.Path.{◌≡◌, refl, sym, ap, ◌∙◌}
use mathlib.Core.Bool.{Bool, true, false, cond}
use mathlib.Core.List.{List, ◌∷◌, map}
use Prim.Native.Nat.{ℕ, zero, suc, ◌+◌}
use native.Mathlib.Omega.{arith}
use lib.ListN.{length, get_or}
use Rattle.std.specs.List.{count_by}
use Rattle.std.proofs.lemmas.List.Recursion.{is_count_by}
use Rattle.bits.specs.Bits.{add_one, ones, cut}
use Rattle.bits.proofs.Cut.{cut_get_or}

-- the tests of a sequence's values
cut_map : (f : ℕ → Bool) (g : ℕ → ℕ) (i n : ℕ) → cut (λ j. f (g j)) i n ≡ map f (cut g i n)
cut_map f g i zero = refl
cut_map f g i (suc n) = ap (λ (l : List Bool). f (g i) ∷ l) (cut_map f g (suc i) n)

-- the language's count of what passes a test
ones_is : (f : ℕ → Bool) (xs : List ℕ) → ones (map f xs) ≡ count_by f xs
ones_is f = is_count_by (λ xs. ones (map f xs)) f refl (λ x xs. one_more (f x) (ones (map f xs)))
  where
    one_more : (b : Bool) (n : ℕ) → add_one b n ≡ cond b (1 + n) n
    one_more true n = omega arith
    one_more false n = refl

-- of n entries, by their numbers
pub ones_entries : (f : ℕ → Bool) (xs : List ℕ) (n : ℕ) → length xs ≡ n → ones (cut (λ u. f (get_or xs u 0)) 0 n) ≡ count_by f xs
ones_entries f xs n e =
    ap ones (cut_map f (λ u. get_or xs u 0) 0 n ∙ ap (map f) (ap (cut (λ u. get_or xs u 0) 0) (sym e) ∙ cut_get_or 0 xs)) ∙ ones_is f xs
