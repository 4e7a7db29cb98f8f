-- Spaced values: what raising gives, and leaves as it is, by its two steps; and what that says of each value.
-- Assumes nothing.
use mathlib.Core.Path.{◌≡◌, refl, ap, ◌∙◌}
use mathlib.Core.List.{List, [], ◌∷◌}
use Prim.Native.Nat.{ℕ, zero, suc, ◌<◌, suc-le-suc}
use native.Mathlib.Nat.{not-suc-le-zero, le_of_suc-le-suc}
use native.Mathlib.Omega.{arith}
use lib.IntN.{ℤ, pos, ◌+ℤ◌}
use lib.ListN.{length, get_or}
use lib.Signed.{◌≤ℤ◌}
use Rattle.std.specs.Int.{int_max}
use Rattle.codebook_values.specs.Values.{spacing, raised}
use Rattle.codebook_values.specs.Spacing.{Spaced}
use Rattle.codebook_values.proofs.Order.{add_le, le_trans}
use Rattle.codebook_values.proofs.Extremes.{larger_le, larger_kept}

-- raised values are spaced
pub raised_spaced : (least : ℤ) (xs : List ℤ) → Spaced least (raised least xs)
unfolding Spaced raised
raised_spaced least [] = tt
raised_spaced least (x ∷ xs) = (larger_le x least, raised_spaced (int_max x least +ℤ spacing) xs)

-- spaced values stay as they are
pub spaced_kept : (least : ℤ) (xs : List ℤ) → Spaced least xs → raised least xs ≡ xs
unfolding Spaced raised
spaced_kept least [] h = refl
spaced_kept least (x ∷ xs) h =
    let y = larger_kept x least h.0 in
    ap (λ (z : ℤ). z ∷ raised (z +ℤ spacing) xs) y ∙ ap (λ (zs : List ℤ). x ∷ zs) (spaced_kept (x +ℤ spacing) xs h.1)

-- less may be asked of the first
pub spaced_weaker : {least more : ℤ} (xs : List ℤ) → least ≤ℤ more → Spaced more xs → Spaced least xs
unfolding Spaced
spaced_weaker [] h s = tt
spaced_weaker (x ∷ xs) h s = (le_trans h s.0, s.1)

-- each is at least what is asked of the first
pub spaced_from : (least : ℤ) (xs : List ℤ) (i : ℕ) → i < length xs → Spaced least xs → least ≤ℤ get_or xs i (pos 0)
unfolding Spaced
spaced_from least [] i h s = absurd (not-suc-le-zero h)
spaced_from least (x ∷ xs) zero h s = s.0
spaced_from least (x ∷ xs) (suc i) h s =
    le_trans s.0 (le_trans (add_le x 50000000) (spaced_from (x +ℤ spacing) xs i (le_of_suc-le-suc h) s.1))

-- each next is at least the one before plus 50 Hz
pub spaced_apart : (least : ℤ) (xs : List ℤ) (i : ℕ) → suc i < length xs → Spaced least xs → (get_or xs i (pos 0) +ℤ spacing) ≤ℤ get_or xs (suc i) (pos 0)
unfolding Spaced
spaced_apart least [] i h s = absurd (not-suc-le-zero h)
spaced_apart least (x ∷ xs) zero h s = spaced_from (x +ℤ spacing) xs 0 (le_of_suc-le-suc h) s.1
spaced_apart least (x ∷ xs) (suc i) h s = spaced_apart (x +ℤ spacing) xs i (le_of_suc-le-suc h) s.1

-- and values of which both hold are spaced
pub apart_spaced : (least : ℤ) (xs : List ℤ) → ((i : ℕ) → suc i < length xs → (get_or xs i (pos 0) +ℤ spacing) ≤ℤ get_or xs (suc i) (pos 0))
    → (0 < length xs → least ≤ℤ get_or xs 0 (pos 0)) → Spaced least xs
unfolding Spaced
apart_spaced least [] apart first = tt
apart_spaced least (x ∷ xs) apart first =
    (first (omega arith), apart_spaced (x +ℤ spacing) xs (λ i h. apart (suc i) (suc-le-suc h)) (λ h. apart 0 (suc-le-suc h)))
