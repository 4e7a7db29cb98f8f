-- The examples hold by computation; the ninth is a law about all erased frames.
-- Assumes nothing.
use mathlib.Core.Path.{refl}
use Rattle.pitch.specs.Pitch.{index, class_of, class_answer}
use Rattle.hamming.specs.Word.{fix_of, decode}
use Rattle.order.specs.Order.{place_of, order_by, default_order, frame_of, bit_at, through}
use Rattle.gain.specs.Levels.{first_level, first_level_answer}
use Rattle.quantiser.specs.Choice.{nearest, chosen_g1, choose_answer}
use Rattle.frame.specs.Layout.{words, others, unvoiced_words, logical}
use Rattle.frame.specs.Packing.{pack_answer, pack_writes}
use Rattle.reading.specs.Reading.{read}
use Rattle.records.specs.Records.{fresh}
use Rattle.receiver.specs.Steps.{accepted, repeated}
use Rattle.receiver.specs.Receiving.{receive}
use Rattle.codebook.specs.Rows.{stage_start, all_fit}
use Rattle.codebook_values.specs.Values.{added, raised, lowered, lsf_values, lsf_answer, lsf_writes}
use Rattle.examples.specs.Examples.{Examples}
use Rattle.examples.proofs.Mute.{mutes}

pub examples : Examples
unfolding index class_of class_answer fix_of decode first_level first_level_answer nearest chosen_g1 choose_answer place_of order_by default_order frame_of bit_at through
    words others unvoiced_words logical pack_answer pack_writes read fresh accepted repeated receive stage_start all_fit added raised lowered lsf_values lsf_answer lsf_writes
examples = record {
  example_1 = record { zero_ones = refl; one_one = refl; two_ones = refl; lowest = refl; middle = refl; highest = refl };
  example_2 = record { parity = refl; one_flip = refl; two_flips = refl; three_flips = refl };
  example_3 = record { parity = refl };
  example_4 = record { code_0 = refl; code_1 = refl; code_7 = refl; steady = refl; transition = refl };
  example_5 = record { on_threshold = refl; above = refl };
  example_6 = record { ninety_answer = refl; ninety_packed = refl };
  example_7 = record { repaired = refl; repeats = refl };
  example_8 = record { answer = refl; second_raised = refl };
  example_9 = mutes;
}
