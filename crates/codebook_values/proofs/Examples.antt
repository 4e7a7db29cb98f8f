-- The examples hold by computation. Assumes nothing.
use mathlib.Core.Path.{refl}
use Rattle.codebook.specs.Rows.{stage_start, all_fit}
use Rattle.codebook.specs.Examples.{counting}
use Rattle.codebook_values.specs.Values.{added, raised, lowered, lsf_values, lsf_answer, lsf_writes, magnitudes_answer, magnitudes_writes}
use Rattle.codebook_values.specs.Examples.{Examples}

pub examples : Examples
unfolding stage_start all_fit counting added raised lowered lsf_values lsf_answer lsf_writes magnitudes_answer magnitudes_writes
examples = record {
  values = record { one_row_of_each_stage = refl; from_50_hertz = refl; row_five = refl; no_row = refl; kept = refl };
  lowered = record { last_four = refl; top_kept = refl; raised_first = refl };
  refusals = record {
    room = refl;
    magnitudes_room = refl;
    range = refl;
    length = refl;
    magnitudes_length = refl;
    entry = refl;
    magnitude = refl;
    unvoiced_magnitude = refl;
    first = refl;
    room_first = refl;
  };
}
