-- A list whose front is replaced entry by entry.
-- Assumes nothing.
use mathlib.Core.Path.{◌≡◌, refl, ap, ◌∙◌}
use mathlib.Core.List.{List, [], ◌∷◌, ◌++◌}
use Prim.Native.Nat.{ℕ, zero, suc, ◌+◌, ◌≤◌, ◌<◌}
use native.Mathlib.Nat.{not-suc-le-zero, le_of_suc-le-suc}
use native.Mathlib.Numerals.{add-one}
use lib.ListN.{length, get_or, take, drop, set}
use lib.Seq.{take_all}

front_suc : {A : Type 0} (s d : List A) (j : ℕ) (z : A) → j < length d → j < length s
    → set (take j s ++ drop j d) j (get_or s j z) ≡ take (suc j) s ++ drop (suc j) d
front_suc s [] j z l m = absurd (not-suc-le-zero l)
front_suc [] (x ∷ d) j z l m = absurd (not-suc-le-zero m)
front_suc (y ∷ s) (x ∷ d) zero z l m = refl
front_suc (y ∷ s) (x ∷ d) (suc j) z l m = ap (λ (t : List _). y ∷ t) (front_suc s d j z (le_of_suc-le-suc l) (le_of_suc-le-suc m))

-- where the first j entries of d are those of s, one more store makes it j + 1
pub front_more : {A : Type 0} (s d : List A) (j : ℕ) (z : A) → j < length d → j < length s
    → set (take j s ++ drop j d) j (get_or s j z) ≡ take (j + 1) s ++ drop (j + 1) d
front_more s d j z l m = rw add-one (front_suc s d j z l m)

-- with every entry of s stored, s stands in front
pub front_all : {A : Type 0} (s d out : List A) (i n : ℕ) → out ≡ take i s ++ drop i d → i ≡ n → length s ≤ n → out ≡ s ++ drop n d
front_all s d out i n e q h = e ∙ ap (λ (k : ℕ). take k s ++ drop k d) q ∙ ap (λ (t : List _). t ++ drop n d) (take_all n s h)
