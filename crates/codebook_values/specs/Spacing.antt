-- What is promised of LSF values beyond their definition: document 02, T-03, in its own numbers, and the minimum separation of MIL-STD-3005,
-- 5.3.4.
use Rattle.std.specs.Prelude.{ℕ, ◌+◌, ◌<◌, ◌≡◌, Bool, true, List, [], ◌∷◌, ℤ, pos, neg_ℤ, ◌+ℤ◌, length, get_or, take, ◌≤ℤ◌, Ok}
use Rattle.sets.specs.declared.ParameterSet.{ParameterSet}
use Rattle.codebook.specs.Rows.{between, all_fit}
use Rattle.codebook_values.specs.Values.{added_four, spacing, raised, highest, lowered, rows_values, rows_fit, lsf_answer, lsf_writes}

-- values of which the first is at least `least`, and each next at least the one before plus 50 Hz: what raising gives
unfoldable pub Spaced : ℤ → List ℤ → Type 0
Spaced least [] = Unit
Spaced least (x ∷ xs) = (least ≤ℤ x) × Spaced (x +ℤ spacing) xs

-- ten values, each at least 50 Hz above the one before, between 50 and 3,950 Hz; in millionths of a hertz
pub record InBand (values : List ℤ) : Type 0 where
  pub ten : length values ≡ 10
  pub apart : (i : ℕ) → i + 1 < 10 → (get_or values i (pos 0) +ℤ pos 50000000) ≤ℤ get_or values (i + 1) (pos 0)
  pub from_50 : (i : ℕ) → i < 10 → pos 50000000 ≤ℤ get_or values i (pos 0)
  pub to_3950 : (i : ℕ) → i < 10 → get_or values i (pos 0) ≤ℤ pos 3950000000

-- within 16,000,000,000 of 0, four times the limit of an entry
abbrev pub sum_fits : ℤ → Bool
sum_fits = between (neg_ℤ (pos 16000000000)) (pos 16000000000)

-- what holds for any codebook and set
pub record LsfSpacing : Type 0 where
  -- a call that is not refused leaves such values in front of its output
  pub written : (set : ParameterSet) (codebook out : List ℤ) → lsf_answer set codebook (length out) ≡ Ok tt
      → InBand (take 10 (lsf_writes set codebook out))
  -- sums that are so already stay as they are
  pub kept : (a b c d : List ℤ) → InBand (added_four a b c d) → rows_values a b c d ≡ added_four a b c d
  -- and where they are so once raised, nothing is lowered
  pub raised_kept : (sums : List ℤ) → InBand (raised spacing sums) → lowered highest (raised spacing sums) ≡ raised spacing sums
  -- sums of four rows whose entries fit stay within 16,000,000,000
  pub bounded : (a b c d : List ℤ) → rows_fit a b c d ≡ true → all_fit sum_fits (added_four a b c d) ≡ true
