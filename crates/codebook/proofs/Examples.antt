-- The examples hold by computation. Assumes nothing.
use mathlib.Core.Path.{refl}
use Rattle.codebook.specs.Rows.{stage_start, all_fit}
use Rattle.codebook.specs.Examples.{counting, Examples}

pub examples : Examples
unfolding stage_start all_fit counting
examples = record {
  places = record { stage_1 = refl; stage_2 = refl; stage_3 = refl; stage_4 = refl; magnitudes = refl };
  out_of_range = record { past_128 = refl; past_64 = refl; no_stage = refl; past_256 = refl };
  lengths = record { lsf = refl; magnitudes = refl };
  limits = record { lsf_above = refl; lsf_below = refl; magnitude_above = refl; magnitude_below = refl; row_not_in_use = refl };
  first = record { five = refl; six = refl };
}
