-- The examples of the number of repeats hold by computation.
-- Assumes nothing.
use mathlib.Core.Path.{refl}
use Rattle.pitch.specs.Pitch.{index, class_of}
use Rattle.hamming.specs.Word.{fix_of, decode}
use Rattle.order.specs.Order.{place_of, order_by, default_order, bit_at, through}
use Rattle.gain.specs.Levels.{first_level}
use Rattle.reading.specs.Reading.{read}
use Rattle.receiver.specs.Steps.{accepted, repeated}
use Rattle.receiver.specs.Receiving.{receive}
use Rattle.examples.specs.RepeatCounts.{RepeatCounts, TakenOverExamples}

pub repeat_counts : RepeatCounts
unfolding index class_of fix_of decode place_of order_by default_order bit_at through first_level read accepted repeated receive
repeat_counts = record {
  out = refl;
  out_mute = refl;
  out_and_in = refl;
  out_and_in_mute = refl;
  only_in = refl;
  only_in_mute = refl;
  neither = refl;
  neither_mute = refl;
  all = refl;
  one_less = refl;
  one_more = refl;
  none = refl;
  sixteen_more = refl;
  right = refl;
}

pub taken_over_examples : TakenOverExamples
taken_over_examples = record { taken = refl; highest = refl; past = refl; set_past = refl }
