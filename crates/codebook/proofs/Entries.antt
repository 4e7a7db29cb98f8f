-- A row tested entry by entry; and each entry of a row that fits.
-- Assumes nothing.
use mathlib.Core.Path.{◌≡◌, refl, ap}
use mathlib.Core.Bool.{Bool, true, ◌&&◌, and-eq-true_iff}
use mathlib.Core.List.{List, [], ◌∷◌}
use Prim.Native.Nat.{ℕ, zero, suc, ◌<◌}
use native.Mathlib.Nat.{not-suc-le-zero, le_of_suc-le-suc}
use lib.ListN.{length, get_or}
use lib.IntN.{ℤ, pos}
use Rattle.std.specs.List.{list_all}
use Rattle.codebook.specs.Rows.{all_fit}

-- the test is std's own
pub all_fit_is : (fits : ℤ → Bool) (row : List ℤ) → list_all fits row ≡ all_fit fits row
unfolding all_fit
all_fit_is fits [] = refl
all_fit_is fits (z ∷ zs) = ap (λ (b : Bool). fits z && b) (all_fit_is fits zs)

-- an entry of a row that fits
pub fit_at : (fits : ℤ → Bool) (row : List ℤ) (i : ℕ) → i < length row → all_fit fits row ≡ true → fits (get_or row i (pos 0)) ≡ true
unfolding all_fit
fit_at fits [] i h e = absurd (not-suc-le-zero h)
fit_at fits (z ∷ zs) zero h e = ((and-eq-true_iff (fits z) (all_fit fits zs)).0 e).0
fit_at fits (z ∷ zs) (suc i) h e = fit_at fits zs i (le_of_suc-le-suc h) ((and-eq-true_iff (fits z) (all_fit fits zs)).0 e).1
