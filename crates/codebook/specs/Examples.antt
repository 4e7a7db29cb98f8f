-- Document 01, "LSF and magnitude values" and "Refusals by place", in numbers: where rows stand, and what is refused. Each fact is about what
-- the calls answer.
use Rattle.std.specs.Prelude.{ℕ, zero, suc, ◌-◌, ◌≡◌, List, [], ◌∷◌, ◌++◌, map, replicate, ℤ, pos, neg_ℤ, None, Some}
use Rattle.refusal.specs.declared.Refusal.TheVariants.{OutOfRange, InvalidCodebook, EntryOutOfRange}
use Rattle.codebook.specs.Rows.{lsf_row, magnitude_row, lsf_row_refusal, magnitude_row_refusal, row_unless}

-- n numbers that count from k on; in a codebook that counts from 0 the entries of a row tell where it stands
unfoldable pub counting : ℕ → ℕ → List ℤ
counting k zero = []
counting k (suc n) = pos k ∷ counting (suc k) n

-- a codebook of zeros but for entry i
abbrev pub zeros_but : ℕ → ℕ → ℤ → List ℤ
zeros_but size i x = replicate i (pos 0) ++ x ∷ replicate (size - suc i) (pos 0)

-- row `index` of a stage, as it is handed out
abbrev pub handed_row : List ℤ → ℕ → ℕ → List ℤ
handed_row codebook stage index = row_unless (lsf_row_refusal codebook stage index) (lsf_row codebook stage index)

-- row `index` of the magnitudes, as it is handed out
abbrev pub handed_magnitudes : List ℤ → ℕ → List ℤ
handed_magnitudes codebook index = row_unless (magnitude_row_refusal codebook index) (magnitude_row codebook index)

-- the rows: 128 in stage 1, from entry 0 on; 64 in each of stages 2 to 4; 256 of magnitudes
pub record Places : Type 0 where
  pub stage_1 : map (handed_row (counting 0 3200) 1) (0 ∷ 127 ∷ 128 ∷ []) ≡ counting 0 10 ∷ counting 1270 10 ∷ [] ∷ []
  pub stage_2 : map (handed_row (counting 0 3200) 2) (0 ∷ 63 ∷ 64 ∷ []) ≡ counting 1280 10 ∷ counting 1910 10 ∷ [] ∷ []
  pub stage_3 : map (handed_row (counting 0 3200) 3) (0 ∷ 63 ∷ 64 ∷ []) ≡ counting 1920 10 ∷ counting 2550 10 ∷ [] ∷ []
  pub stage_4 : map (handed_row (counting 0 3200) 4) (0 ∷ 63 ∷ 64 ∷ []) ≡ counting 2560 10 ∷ counting 3190 10 ∷ [] ∷ []
  pub magnitudes : map (handed_magnitudes (counting 0 2560)) (0 ∷ 255 ∷ 256 ∷ []) ≡ counting 0 10 ∷ counting 2550 10 ∷ [] ∷ []

-- 5: an index one past the last row, and a stage that there is not
pub record Ranges : Type 0 where
  pub past_128 : map (lsf_row_refusal (counting 0 3200) 1) (127 ∷ 128 ∷ []) ≡ None ∷ Some OutOfRange ∷ []
  pub past_64 : map (λ stage. lsf_row_refusal (counting 0 3200) stage 64) (2 ∷ 3 ∷ 4 ∷ []) ≡ Some OutOfRange ∷ Some OutOfRange ∷ Some OutOfRange ∷ []
  pub no_stage : map (λ stage. lsf_row_refusal (counting 0 3200) stage 0) (0 ∷ 1 ∷ 4 ∷ 5 ∷ []) ≡ Some OutOfRange ∷ None ∷ None ∷ Some OutOfRange ∷ []
  pub past_256 : map (magnitude_row_refusal (counting 0 2560)) (255 ∷ 256 ∷ []) ≡ None ∷ Some OutOfRange ∷ []

-- 6: a number too few or too many
pub record Lengths : Type 0 where
  pub lsf : map (λ size. lsf_row_refusal (counting 0 size) 1 0) (3199 ∷ 3200 ∷ 3201 ∷ []) ≡ Some InvalidCodebook ∷ None ∷ Some InvalidCodebook ∷ []
  pub magnitudes : map (λ size. magnitude_row_refusal (counting 0 size) 0) (2559 ∷ 2560 ∷ 2561 ∷ []) ≡ Some InvalidCodebook ∷ None ∷ Some InvalidCodebook ∷ []

-- 7: entries at and past the limits
pub record Limits : Type 0 where
  pub lsf_above : map (λ n. lsf_row_refusal (zeros_but 3200 3199 (pos n)) 4 63) (4000000000 ∷ 4000000001 ∷ []) ≡ None ∷ Some EntryOutOfRange ∷ []
  pub lsf_below : map (λ n. lsf_row_refusal (zeros_but 3200 3199 (neg_ℤ (pos n))) 4 63) (4000000000 ∷ 4000000001 ∷ []) ≡ None ∷ Some EntryOutOfRange ∷ []
  pub magnitude_above : map (λ n. magnitude_row_refusal (zeros_but 2560 0 (pos n)) 0) (0 ∷ 4000000 ∷ 4000001 ∷ []) ≡ None ∷ None ∷ Some EntryOutOfRange ∷ []
  pub magnitude_below : magnitude_row_refusal (zeros_but 2560 0 (neg_ℤ (pos 1))) 0 ≡ Some EntryOutOfRange
  pub row_not_in_use : lsf_row_refusal (zeros_but 3200 10 (pos 4000000001)) 1 0 ≡ None

-- where several apply: 5 before 6, 6 before 7
pub record First : Type 0 where
  pub five : lsf_row_refusal (zeros_but 3199 0 (pos 4000000001)) 5 0 ≡ Some OutOfRange
  pub six : lsf_row_refusal (zeros_but 3199 0 (pos 4000000001)) 1 0 ≡ Some InvalidCodebook

-- all together
pub record Examples : Type 0 where
  pub places : Places
  pub out_of_range : Ranges
  pub lengths : Lengths
  pub limits : Limits
  pub first : First
