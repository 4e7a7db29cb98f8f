-- The worked examples hold by computation.
-- Assumes nothing.
use mathlib.Core.Path.{refl}
use Rattle.pitch.specs.Pitch.{index, class_of, voiced_from, code_of}
use Rattle.hamming.specs.Word.{fix_of, decode}
use Rattle.soft.specs.Least.{least_by}
use Rattle.soft.specs.Choice.{chosen, choose}
use Rattle.order.specs.Order.{place_of, order_by, default_order, frame_of, bit_at, through}
use Rattle.gain.specs.Levels.{first_level}
use Rattle.quantiser.specs.Choice.{nearest, chosen_g1, choose_answer}
use Rattle.frame.specs.Layout.{words, others, unvoiced_words, voiced_words, logical}
use Rattle.frame.specs.Packing.{pack_answer, pack_writes}
use Rattle.reading.specs.Reading.{read}
use Rattle.reading.specs.SoftReading.{soft_read}
use Rattle.records.specs.Records.{fresh}
use Rattle.receiver.specs.Steps.{accepted, repeated}
use Rattle.receiver.specs.Receiving.{receive}
use Rattle.receiver.specs.SoftReceiving.{soft_receive}
use Rattle.examples.specs.WorkedExamples.{WorkedExamples}

pub worked_examples : WorkedExamples
unfolding index class_of voiced_from code_of fix_of decode place_of order_by default_order frame_of bit_at through first_level nearest chosen_g1 choose_answer
    words others unvoiced_words voiced_words logical pack_answer pack_writes read soft_read least_by chosen choose fresh accepted repeated receive soft_receive
worked_examples = record {
  voiced_set = record { answer = refl; packed = refl; received = refl; bandpass_one = refl };
  repeat = record { level_kept = refl };
  record_range = record { highest = refl; past = refl };
  spare_syndrome = record { erased = refl; in_seven_bits = refl; repeats = refl; repaired = refl };
  confidences = record {
    tied = refl;
    dearer = refl;
    cheaper = refl;
    smallest = refl;
    stands = refl;
    highest = refl;
    highest_sum = refl;
    repeats = refl;
    mended = refl;
    one_missing = refl;
  };
  distance = record { two = refl; three = refl };
  limits = record {
    highest = refl;
    l1 = refl;
    l2 = refl;
    l3 = refl;
    l4 = refl;
    g2 = refl;
    g1 = refl;
    pitch = refl;
    bandpass = refl;
    aperiodic = refl;
  };
}
