-- Lowering from the top down: none is above `most`; spaced values stay spaced, and those that are in bounds already stay as they are.
-- Assumes nothing.
use mathlib.Core.Path.{◌≡◌, refl, ap, ◌∙◌}
use mathlib.Core.List.{List, [], ◌∷◌}
use Prim.Native.Nat.{ℕ, zero, suc, ◌+◌, ◌*◌, ◌≤◌, ◌<◌, suc-le-suc}
use native.Mathlib.Nat.{not-suc-le-zero, le_of_suc-le-suc}
use native.Mathlib.Omega.{arith}
use lib.Dec.{le→leb}
use lib.IntN.{ℤ, pos, nat_abs, ◌+ℤ◌}
use lib.ListN.{length, get_or}
use lib.Signed.{◌≤ℤ◌, ≤ℤ_refl, le_z_yes}
use Rattle.std.specs.Int.{int_min}
use Rattle.codebook_values.specs.Values.{spacing, most_below, lowered}
use Rattle.codebook_values.specs.Spacing.{Spaced}
use Rattle.codebook_values.proofs.Sizes.{abs_smaller_le}
use Rattle.codebook_values.proofs.Order.{sub_le, le_trans, add_le_add, le_sub, add_le_of_sub}
use Rattle.codebook_values.proofs.Extremes.{smaller_le, smaller_kept, smaller_from}
use Rattle.codebook_values.proofs.Spaced.{spaced_weaker, spaced_from}

-- as many values as before
pub lowered_length : (most : ℤ) (xs : List ℤ) → length (lowered most xs) ≡ length xs
unfolding lowered
lowered_length most [] = refl
lowered_length most (x ∷ xs) = ap suc (lowered_length most xs)

-- what is asked of a value is at most `most`, where those above it are
below_le : (most : ℤ) (above : List ℤ) → ((i : ℕ) → i < length above → get_or above i (pos 0) ≤ℤ most) → most_below most above ≤ℤ most
below_le most [] h = ≤ℤ_refl most
below_le most (next ∷ above) h = le_trans (sub_le next 50000000) (h 0 (omega arith))

-- no lowered value is above `most`
pub lowered_le : (most : ℤ) (xs : List ℤ) (i : ℕ) → i < length (lowered most xs) → get_or (lowered most xs) i (pos 0) ≤ℤ most
unfolding lowered
lowered_le most [] i h = absurd (not-suc-le-zero h)
lowered_le most (x ∷ xs) zero h = le_trans (smaller_le x _) (below_le most (lowered most xs) (lowered_le most xs))
lowered_le most (x ∷ xs) (suc i) h = lowered_le most xs i (le_of_suc-le-suc h)

-- values from x + 50 Hz on ask no less than x of the one below them
below_from : (x most : ℤ) (above : List ℤ) → x ≤ℤ most → Spaced (x +ℤ spacing) above → x ≤ℤ most_below most above
unfolding Spaced
below_from x most [] h s = h
below_from x most (next ∷ above) h s = le_sub spacing s.0

-- and a value that is no more than they ask stands 50 Hz below them
below_spaced : (x most least : ℤ) (above : List ℤ) → x ≤ℤ most_below most above → Spaced least above → Spaced (x +ℤ spacing) above
unfolding Spaced
below_spaced x most least [] h s = tt
below_spaced x most least (next ∷ above) h s = (add_le_of_sub spacing h, s.1)

-- values spaced from l on stay so, where m has room for all of them above l
pub lowered_spaced : (l m : ℕ) (xs : List ℤ) → l + 50000000 * length xs ≤ m + 50000000 → Spaced (pos l) xs → Spaced (pos l) (lowered (pos m) xs)
unfolding Spaced lowered
lowered_spaced l m [] room s = tt
lowered_spaced l m (x ∷ xs) room s =
    let above = lowered (pos m) xs in
    let rest = lowered_spaced (l + 50000000) m xs (omega arith) (spaced_weaker xs (add_le_add spacing s.0) s.1) in
    let asked = below_from (pos l) (pos m) above (le_z_yes (le→leb l m (omega arith))) rest in
    (smaller_from x _ s.0 asked, below_spaced _ (pos m) _ above (smaller_le x _) rest)

-- a value of these is lowered to one at most as large as what is asked of it, for it is not negative
pub lowered_abs_le : (values : List ℤ) (i : ℕ) (most : ℤ) → i < length values → Spaced spacing values
    → nat_abs (int_min (get_or values i (pos 0)) most) ≤ nat_abs most
lowered_abs_le values i most h s = abs_smaller_le _ most (le_trans (le_z_yes tt) (spaced_from spacing values i h s))

-- spaced values of which none is above `most` stay as they are
pub lowered_kept : (least most : ℤ) (xs : List ℤ) → Spaced least xs → ((i : ℕ) → i < length xs → get_or xs i (pos 0) ≤ℤ most) → lowered most xs ≡ xs
unfolding Spaced lowered
lowered_kept least most [] s h = refl
lowered_kept least most (x ∷ xs) s h =
    let rest = lowered_kept (x +ℤ spacing) most xs s.1 (λ i k. h (suc i) (suc-le-suc k)) in
    ap (λ (above : List ℤ). int_min x (most_below most above) ∷ above) rest
    ∙ ap (λ (z : ℤ). z ∷ xs) (smaller_kept x _ (below_from x most xs (h 0 (omega arith)) s.1))
