-- Rows added: the sum has their length, and at each place the sum of their entries there, within four times the limit of an entry.
-- Assumes nothing.
use mathlib.Core.Path.{◌≡◌, refl, ap, ◌∙◌}
use mathlib.Core.Bool.{true, and-eq-true_iff}
use mathlib.Core.List.{List, [], ◌∷◌}
use Prim.Native.Nat.{ℕ, zero, suc, ◌≤◌, ◌<◌}
use native.Mathlib.Nat.{not-suc-le-zero, le_of_suc-le-suc}
use native.Mathlib.Omega.{arith}
use lib.ListN.{length, get_or}
use lib.IntN.{ℤ, pos, negsuc, nat_abs, ◌+ℤ◌}
use borrow.Author.Tests.{le-leb}
use Rattle.codebook.specs.Rows.{lsf_fits, all_fit}
use Rattle.codebook_values.specs.Values.{added, added_four, rows_fit}
use Rattle.codebook_values.specs.Spacing.{sum_fits}
use Rattle.codebook_values.specs.Sums.{sums}
use Rattle.codebook_values.specs.declared.rows.Rows.{Rows}
use Rattle.codebook_values.proofs.FourRows.{and_four}
use Rattle.codebook_values.proofs.Sizes.{four_abs_le}

-- two rows of n numbers
added_length : (n : ℕ) (xs ys : List ℤ) → length xs ≡ n → length ys ≡ n → length (added xs ys) ≡ n
unfolding added
added_length n [] ys hx hy = hx
added_length n (x ∷ xs) [] hx hy = hy
added_length zero (x ∷ xs) (y ∷ ys) hx hy = absurd (omega arith)
added_length (suc n) (x ∷ xs) (y ∷ ys) hx hy = ap suc (added_length n xs ys (omega arith) (omega arith))

-- four rows of n numbers
pub four_length : (n : ℕ) (a b c d : List ℤ) → length a ≡ n → length b ≡ n → length c ≡ n → length d ≡ n → length (added_four a b c d) ≡ n
four_length n a b c d ha hb hc hd =
    let ab = added_length n a b ha hb in
    added_length n (added (added a b) c) d (added_length n (added a b) c ab hc) hd

-- the rows of a set
pub sums_length : (rows : Rows) → length (sums rows) ≡ 10
sums_length rows = let p = rows.ten in four_length 10 _ _ _ _ p.0 p.1 p.2 p.3

-- a place that both rows have
added_lt : (xs ys : List ℤ) (i : ℕ) → i < length xs → i < length ys → i < length (added xs ys)
unfolding added
added_lt [] ys i hx hy = hx
added_lt (x ∷ xs) [] i hx hy = hy
added_lt (x ∷ xs) (y ∷ ys) zero hx hy = omega arith
added_lt (x ∷ xs) (y ∷ ys) (suc i) hx hy = omega (arith, added_lt xs ys i (le_of_suc-le-suc hx) (le_of_suc-le-suc hy))

-- the entry there
added_at : (xs ys : List ℤ) (i : ℕ) → i < length xs → i < length ys → get_or (added xs ys) i (pos 0) ≡ get_or xs i (pos 0) +ℤ get_or ys i (pos 0)
unfolding added
added_at [] ys i hx hy = absurd (not-suc-le-zero hx)
added_at (x ∷ xs) [] i hx hy = absurd (not-suc-le-zero hy)
added_at (x ∷ xs) (y ∷ ys) zero hx hy = refl
added_at (x ∷ xs) (y ∷ ys) (suc i) hx hy = added_at xs ys i (le_of_suc-le-suc hx) (le_of_suc-le-suc hy)

-- the entry of four rows added
pub four_at : (a b c d : List ℤ) (i : ℕ) → i < length a → i < length b → i < length c → i < length d
    → get_or (added_four a b c d) i (pos 0) ≡ get_or a i (pos 0) +ℤ get_or b i (pos 0) +ℤ get_or c i (pos 0) +ℤ get_or d i (pos 0)
four_at a b c d i ha hb hc hd =
    let ab = added_lt a b i ha hb in
    let abc = added_lt (added a b) c i ab hc in
    added_at (added (added a b) c) d i abc hd
    ∙ ap (λ (z : ℤ). z +ℤ get_or d i (pos 0)) (added_at (added a b) c i ab hc ∙ ap (λ (z : ℤ). z +ℤ get_or c i (pos 0)) (added_at a b i ha hb))

-- a size within the bound
sum_fits_lem : (z : ℤ) → nat_abs z ≤ 16000000000 → sum_fits z ≡ true
sum_fits_lem (pos n) h = le-leb n 16000000000 h
sum_fits_lem (negsuc n) h = rw (le-leb n 15999999999 (omega arith)) refl

-- every sum of four rows within the limit
pub sums_fits : (a b c d : List ℤ) → rows_fit a b c d ≡ true → all_fit sum_fits (added_four a b c d) ≡ true
unfolding all_fit added
sums_fits [] b c d h = refl
sums_fits (w ∷ a) [] c d h = refl
sums_fits (w ∷ a) (x ∷ b) [] d h = refl
sums_fits (w ∷ a) (x ∷ b) (y ∷ c) [] h = refl
sums_fits (w ∷ a) (x ∷ b) (y ∷ c) (z ∷ d) h =
    let e = and_four (all_fit lsf_fits (w ∷ a)) (all_fit lsf_fits (x ∷ b)) (all_fit lsf_fits (y ∷ c)) (all_fit lsf_fits (z ∷ d)) h in
    let ew = (and-eq-true_iff (lsf_fits w) (all_fit lsf_fits a)).0 e.0 in
    let ex = (and-eq-true_iff (lsf_fits x) (all_fit lsf_fits b)).0 e.1 in
    let ey = (and-eq-true_iff (lsf_fits y) (all_fit lsf_fits c)).0 e.2 in
    let ez = (and-eq-true_iff (lsf_fits z) (all_fit lsf_fits d)).0 e.3 in
    let here = sum_fits_lem (w +ℤ x +ℤ y +ℤ z) (four_abs_le w x y z ew.0 ex.0 ey.0 ez.0) in
    rw (here, sums_fits a b c d (rw (ew.1, ex.1, ey.1, ez.1) refl)) refl
