-- A set in range and a whole codebook give ten values: where rows are added place by place, none is cut short.
-- Assumes nothing.
use mathlib.Core.Path.{◌≡◌, refl, ◌∙◌}
use mathlib.Core.List.{List}
use lib.Dec.{T}
use lib.ListN.{length}
use lib.IntN.{ℤ}
use Rattle.bits.proofs.Tests.{and_right}
use Rattle.sets.specs.Sets.{indices_in, indices_fit, voicing_fits, in_range}
use Rattle.sets.specs.declared.ParameterSet.{ParameterSet}
use Rattle.sets.specs.declared.ParameterSet.TheVariants.{Unvoiced, Voiced}
use Rattle.sets.proofs.Ranges.{set_ranges, voicing_ranges}
use Rattle.codebook.specs.Rows.{lsf_size, magnitude_size}
use Rattle.codebook.proofs.Answers.{lsf_row_length, magnitude_row_length}
use Rattle.codebook_values.specs.Values.{spacing, raised, highest, lsf_values, magnitudes}
use Rattle.codebook_values.proofs.Sums.{four_length}
use Rattle.codebook_values.proofs.Lowered.{lowered_length}
use Rattle.codebook_values.proofs.RaisedTurns.{raised_length}

-- of LSF
pub lsf_length : (codebook : List ℤ) (set : ParameterSet) → length codebook ≡ lsf_size → T (in_range set) → length (lsf_values codebook set) ≡ 10
unfolding lsf_values
lsf_length codebook set h t =
    let x = indices_in set in
    let r = set_ranges set t in
    lowered_length highest (raised spacing _)
    ∙ raised_length spacing _
    ∙ four_length 10 _ _ _ _ (lsf_row_length codebook 1 x.l1 h r.l1) (lsf_row_length codebook 2 x.l2 h r.l2)
    (lsf_row_length codebook 3 x.l3 h r.l3) (lsf_row_length codebook 4 x.l4 h r.l4)

-- and of magnitudes
pub magnitudes_length : (codebook : List ℤ) (set : ParameterSet) → length codebook ≡ magnitude_size → T (in_range set) → length (magnitudes codebook set) ≡ 10
magnitudes_length codebook (Unvoiced x) h t = refl
magnitudes_length codebook (Voiced x v) h t =
    magnitude_row_length codebook v.fourier h (voicing_ranges v (and_right (indices_fit x) (voicing_fits v) t)).fourier
