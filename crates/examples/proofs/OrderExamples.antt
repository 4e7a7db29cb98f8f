-- The examples of orders hold by computation; the widths by the smallest distance, which is computed.
-- Assumes nothing.
use mathlib.Core.Path.{◌≡◌, refl, subst}
use mathlib.Core.Bool.{false}
use mathlib.Core.List.{List}
use Prim.Native.Nat.{ℕ, suc, ◌-◌, ◌≤◌, ◌<◌}
use native.Mathlib.Omega.{arith}
use lib.Dec.{T, lit≤}
use Rattle.bits.specs.Lists.{every}
use Rattle.bits.proofs.Tests.{every_at, equal_at}
use Rattle.pitch.specs.Pitch.{index, class_of}
use Rattle.hamming.specs.Word.{fix_of, decode}
use Rattle.soft.specs.Least.{least_by}
use Rattle.soft.specs.Choice.{chosen, choose}
use Rattle.gain.specs.Levels.{first_level}
use Rattle.order.specs.Order.{times, Order, place_of, order_by, default_order, frame_of, bit_at}
use Rattle.frame.specs.Layout.{words, others, unvoiced_words, voiced_words, logical}
use Rattle.bursts.specs.Distances.{apart_at}
use Rattle.bursts.specs.Width.{burst_width}
use Rattle.bursts.proofs.Distances.{width_is}
use Rattle.records.specs.Records.{fresh}
use Rattle.reading.specs.Reading.{read}
use Rattle.reading.specs.SoftReading.{soft_read}
use Rattle.receiver.specs.Steps.{accepted, repeated}
use Rattle.receiver.specs.Receiving.{receive}
use Rattle.receiver.specs.SoftReceiving.{soft_receive}
use Rattle.examples.specs.OrderExamples.{straight, exchanged, OrderExamples}

-- two places of one part meet at a distance d and at none below it
meets : (ord : List ℕ) → Order ord → (d : ℕ) → 1 ≤ d → d < 54 → T (every (d - 1) (λ k. apart_at ord (suc k))) → apart_at ord d ≡ false → burst_width ord ≡ d
meets ord o d a b t e = width_is ord o d a (omega arith) below (λ h. e)
  where
    below : (k : ℕ) → 1 ≤ k → k < d → T (apart_at ord k)
    below k c h =
        let q : suc (k - 1) ≡ k = omega arith in
        subst (λ (i : ℕ). T (apart_at ord i)) q (every_at (d - 1) (λ i. apart_at ord (suc i)) t (k - 1) (omega arith))

exchanged_order : Order exchanged
unfolding place_of order_by default_order
exchanged_order = record { size = refl; once = equal_at 54 (λ j. times j exchanged) (λ j. 1) tt }

exchanged_width : burst_width exchanged ≡ 6
unfolding place_of order_by default_order
exchanged_width = meets exchanged exchanged_order 6 (lit≤ tt) (lit≤ tt) tt refl

straight_order : Order straight
straight_order = record { size = refl; once = equal_at 54 (λ j. times j straight) (λ j. 1) tt }

pub order_examples : OrderExamples
unfolding index class_of fix_of decode place_of order_by default_order frame_of bit_at first_level words others unvoiced_words voiced_words logical read soft_read least_by chosen choose fresh
    accepted repeated receive soft_receive
order_examples = record {
  tested = record {
    straight_is = refl;
    reversed_is = refl;
    exchanged_is = refl;
    number_twice = refl;
    number_past = refl;
    entry_less = refl;
    entry_more = refl;
  };
  packed = record { in_straight = refl; in_exchanged = refl; in_reversed = refl };
  received = record { plain = refl; soft = refl };
  refused = record {
    output_first = refl;
    order_before_set = refl;
    set_last = refl;
    length_first = refl;
    order_before_padding = refl;
    padding_last = refl;
    order_before_record = refl;
    order_before_confidences = refl;
  };
  widths = record { straight_width = meets straight straight_order 1 (lit≤ tt) (lit≤ tt) tt refl; exchanged_width = exchanged_width };
}
