-- Document 01, "LSF and magnitude values" and "Refusals by place", with document 02, T-03: the ten values of a set, and what a call for them
-- answers and leaves. LSF values are those of MIL-STD-3005, 5.3.4, magnitudes those of 5.3.5.
use Rattle.std.specs.Prelude.{ℕ, Bool, true, not, ◌&&◌, List, [], ◌∷◌, ltb, eqb, length, replicate, ℤ, pos, ◌+ℤ◌, ◌-ℤ◌, Option, Result}
use Rattle.std.specs.Int.{int_max, int_min}
use Rattle.bits.specs.Lists.{written_unless}
use Rattle.refusal.specs.Refusals.{Table, first_refusal, unless}
use Rattle.refusal.specs.declared.Refusal.{Refusal}
use Rattle.refusal.specs.declared.Refusal.TheVariants.{ShortOutput, OutOfRange, InvalidCodebook, EntryOutOfRange}
use Rattle.sets.specs.Sets.{indices_in, in_range}
use Rattle.sets.specs.declared.Indices.{Indices}
use Rattle.sets.specs.declared.ParameterSet.{ParameterSet}
use Rattle.sets.specs.declared.ParameterSet.TheVariants.{Unvoiced, Voiced}
use Rattle.codebook.specs.Rows.{lsf_size, magnitude_size, lsf_row, magnitude_row, lsf_fits, magnitude_fits, all_fit}

-- two rows added, component by component
unfoldable pub added : List ℤ → List ℤ → List ℤ
added [] ys = []
added (x ∷ xs) [] = []
added (x ∷ xs) (y ∷ ys) = (x +ℤ y) ∷ added xs ys

-- four rows added (5.3.4: the sum of the vectors, one of each stage)
abbrev pub added_four : List ℤ → List ℤ → List ℤ → List ℤ → List ℤ
added_four a b c d = added (added (added a b) c) d

-- 50 Hz: the least that two neighbours may lie apart (5.3.4), and the least that component 1 may be
abbrev pub spacing : ℤ
spacing = pos 50000000

-- each component raised to at least what is asked of it: `least` of the first, of each next the one before plus 50 Hz (the rule of document 01
-- for 5.3.4, which leaves open how values are moved apart)
unfoldable pub raised : ℤ → List ℤ → List ℤ
raised least [] = []
raised least (x ∷ xs) = let y = int_max x least in y ∷ raised (y +ℤ spacing) xs

-- 3,950 Hz: the most that the tenth component may be (document 02, T-03)
abbrev pub highest : ℤ
highest = pos 3950000000

-- the most that is asked of a component, by those above it as they are lowered: `most` of the last, of each other the next minus 50 Hz
abbrev pub most_below : ℤ → List ℤ → ℤ
most_below most [] = most
most_below most (next ∷ above) = next -ℤ spacing

-- each component lowered to at most what is asked of it, from the last one down (document 02, T-03)
unfoldable pub lowered : ℤ → List ℤ → List ℤ
lowered most [] = []
lowered most (x ∷ xs) = let above = lowered most xs in int_min x (most_below most above) ∷ above

-- the LSF values of four rows: added, then raised, then lowered
abbrev pub rows_values : List ℤ → List ℤ → List ℤ → List ℤ → List ℤ
rows_values a b c d = lowered highest (raised spacing (added_four a b c d))

-- whether every entry of four rows is within the limit of LSF entries
abbrev pub rows_fit : List ℤ → List ℤ → List ℤ → List ℤ → Bool
rows_fit a b c d = all_fit lsf_fits a && all_fit lsf_fits b && all_fit lsf_fits c && all_fit lsf_fits d

-- of what a set's four rows give (5.3.4): L1 names the row of stage 1, L2 of stage 2, L3 of stage 3, L4 of stage 4
abbrev pub of_rows : {A : Type 0} → (List ℤ → List ℤ → List ℤ → List ℤ → A) → List ℤ → Indices → A
of_rows f codebook x = f (lsf_row codebook 1 x.l1) (lsf_row codebook 2 x.l2) (lsf_row codebook 3 x.l3) (lsf_row codebook 4 x.l4)

-- the LSF values of a set (5.3.4)
unfoldable pub lsf_values : List ℤ → ParameterSet → List ℤ
lsf_values codebook set = of_rows rows_values codebook (indices_in set)

-- the magnitudes of a set: row F (5.3.5); all 1 where it is unvoiced, for such a frame sends none (5.4)
abbrev pub magnitudes : List ℤ → ParameterSet → List ℤ
magnitudes codebook (Unvoiced x) = replicate 10 (pos 1000000)
magnitudes codebook (Voiced x v) = magnitude_row codebook v.fourier

-- whether the row in use is within the limits; an unvoiced set uses none
abbrev pub magnitudes_fit : List ℤ → ParameterSet → Bool
magnitudes_fit codebook (Unvoiced x) = true
magnitudes_fit codebook (Voiced x v) = all_fit magnitude_fits (magnitude_row codebook v.fourier)

-- what refuses LSF values ("Refusals by place"), for an output of `room` numbers: 1, fewer than ten; 5, a set out of range; 6, a codebook of
-- another length; 7, an entry of one of the set's four rows beyond its limit
abbrev pub lsf_table : ParameterSet → List ℤ → ℕ → Table
lsf_table set codebook room =
    (ltb room 10, ShortOutput)
    ∷ (not (in_range set), OutOfRange)
    ∷ (not (eqb (length codebook) lsf_size), InvalidCodebook)
    ∷ (not (of_rows rows_fit codebook (indices_in set)), EntryOutOfRange)
    ∷ []

-- what refuses magnitudes, likewise
abbrev pub magnitudes_table : ParameterSet → List ℤ → ℕ → Table
magnitudes_table set codebook room =
    (ltb room 10, ShortOutput)
    ∷ (not (in_range set), OutOfRange)
    ∷ (not (eqb (length codebook) magnitude_size), InvalidCodebook)
    ∷ (not (magnitudes_fit codebook set), EntryOutOfRange)
    ∷ []

-- the refusal of LSF values
abbrev pub lsf_refusal : ParameterSet → List ℤ → ℕ → Option Refusal
lsf_refusal set codebook room = first_refusal (lsf_table set codebook room)

-- and of magnitudes
abbrev pub magnitudes_refusal : ParameterSet → List ℤ → ℕ → Option Refusal
magnitudes_refusal set codebook room = first_refusal (magnitudes_table set codebook room)

-- what a call for LSF values answers, for an output of `room` numbers
unfoldable pub lsf_answer : ParameterSet → List ℤ → ℕ → Result Unit Refusal
lsf_answer set codebook room = unless (lsf_refusal set codebook room) tt

-- and what its output holds afterwards: the values in front and all past the tenth number kept; after a refusal all kept
unfoldable pub lsf_writes : ParameterSet → List ℤ → List ℤ → List ℤ
lsf_writes set codebook out = written_unless (lsf_refusal set codebook (length out)) 10 (lsf_values codebook set) out

-- what a call for magnitudes answers
unfoldable pub magnitudes_answer : ParameterSet → List ℤ → ℕ → Result Unit Refusal
magnitudes_answer set codebook room = unless (magnitudes_refusal set codebook room) tt

-- and what its output holds afterwards
unfoldable pub magnitudes_writes : ParameterSet → List ℤ → List ℤ → List ℤ
magnitudes_writes set codebook out = written_unless (magnitudes_refusal set codebook (length out)) 10 (magnitudes codebook set) out
