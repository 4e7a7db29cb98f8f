-- Document 01, "LSF and magnitude values": the rows of a codebook (document 01's book). The LSF codebook is that of MIL-STD-3005, 5.3.4 and
-- tables IV to VII, the codebook of magnitudes that of 5.3.5 and table VIII. Numbers are in millionths, of a hertz for LSF.
use Rattle.std.specs.Prelude.{ℕ, zero, suc, ◌+◌, ◌*◌, Bool, true, not, ◌&&◌, cond, List, [], ◌∷◌, leb, ltb, eqb, length, take, drop, ℤ, pos, neg_ℤ, Option, None, Some}
use Rattle.std.specs.Int.Signed.{le_z}
use Rattle.refusal.specs.Refusals.{first_refusal, number_of}
use Rattle.refusal.specs.declared.Refusal.{Refusal}
use Rattle.refusal.specs.declared.Refusal.TheVariants.{OutOfRange, InvalidCodebook, EntryOutOfRange}

-- how many numbers the LSF codebook has: the 320 rows of its four stages (5.3.4), ten in a row
abbrev pub lsf_size : ℕ
lsf_size = 3200

-- and the magnitude codebook: 256 rows (5.3.5) of ten
abbrev pub magnitude_size : ℕ
magnitude_size = 2560

-- the rows of a stage: 128 in stage 1, 64 in each of stages 2 to 4 (5.3.4: indices of 7, 6, 6 and 6 bits), and there is no other stage
abbrev pub stage_rows : ℕ → ℕ
stage_rows stage = cond (eqb stage 1) 128 (cond (leb 2 stage && leb stage 4) 64 0)

-- how many rows stand before a stage: those of all stages below it
unfoldable pub stage_start : ℕ → ℕ
stage_start zero = 0
stage_start (suc stage) = stage_start stage + stage_rows stage

-- row k of a codebook, counted from 0
abbrev pub row_at : List ℤ → ℕ → List ℤ
row_at codebook k = take 10 (drop (10 * k) codebook)

-- the row of a stage that an index names (5.3.4)
abbrev pub lsf_row : List ℤ → ℕ → ℕ → List ℤ
lsf_row codebook stage index = row_at codebook (stage_start stage + index)

-- the row of magnitudes that an index names (5.3.5)
abbrev pub magnitude_row : List ℤ → ℕ → List ℤ
magnitude_row codebook index = row_at codebook index

-- the limits of an entry, both ends included; the standard has none, they are number 7 of "Refusals by place"
abbrev pub between : ℤ → ℤ → ℤ → Bool
between least most z = le_z least z && le_z z most

-- an LSF entry: 4,000 Hz on either side of 0
abbrev pub lsf_fits : ℤ → Bool
lsf_fits = between (neg_ℤ (pos 4000000000)) (pos 4000000000)

-- a magnitude: 0 to 4
abbrev pub magnitude_fits : ℤ → Bool
magnitude_fits = between (pos 0) (pos 4000000)

-- whether every number of a list is within its limits
unfoldable pub all_fit : (ℤ → Bool) → List ℤ → Bool
all_fit fits [] = true
all_fit fits (z ∷ zs) = fits z && all_fit fits zs

-- the refusal of a row of a stage ("Refusals by place"): 5, an index past the rows of its stage, and any index of another stage;
-- 6, a codebook of another length; 7, an entry of the row beyond its limit
abbrev pub lsf_row_refusal : List ℤ → ℕ → ℕ → Option Refusal
lsf_row_refusal codebook stage index =
    first_refusal (
    (not (ltb index (stage_rows stage)), OutOfRange)
    ∷ (not (eqb (length codebook) lsf_size), InvalidCodebook)
    ∷ (not (all_fit lsf_fits (lsf_row codebook stage index)), EntryOutOfRange)
    ∷ [])

-- the refusal of a row of magnitudes, likewise
abbrev pub magnitude_row_refusal : List ℤ → ℕ → Option Refusal
magnitude_row_refusal codebook index =
    first_refusal (
    (not (ltb index 256), OutOfRange)
    ∷ (not (eqb (length codebook) magnitude_size), InvalidCodebook)
    ∷ (not (all_fit magnitude_fits (magnitude_row codebook index)), EntryOutOfRange)
    ∷ [])

-- what is handed out: the row, or a part of no numbers where it is refused
abbrev pub row_unless : Option Refusal → List ℤ → List ℤ
row_unless None row = row
row_unless (Some f) row = []

-- and the number of the refusal that goes with it, 0 is none
abbrev pub number_or_zero : Option Refusal → ℕ
number_or_zero None = 0
number_or_zero (Some f) = number_of f
