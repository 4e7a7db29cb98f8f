-- Worked out by hand: orders of a contractor's own (document 02, T-07), by the set of example 6.
use Rattle.std.specs.Prelude.{ℕ, ◌-◌, ◌≡◌, true, false, List, [], ◌∷◌, drop, replicate, Some}
use Rattle.refusal.specs.declared.Refusal.TheVariants.{ShortOutput, FrameLength, PaddingBits, OutOfRange, InvalidOrder}
use Rattle.bits.specs.Bits.{cut}
use Rattle.order.specs.Order.{is_order, default_order, frame_refusal}
use Rattle.frame.specs.Layout.{frame}
use Rattle.frame.specs.Packing.{fresh_sync, pack_refusal}
use Rattle.bursts.specs.Width.{burst_width}
use Rattle.records.specs.Records.{fresh}
use Rattle.receiver.specs.Receiving.{receive_refusal, receive}
use Rattle.receiver.specs.SoftReceiving.{soft_refusal, soft_receive}
use Rattle.examples.specs.Examples.{ninety, ninety_bytes}
use Rattle.examples.specs.WorkedExamples.{voiced, kept}

-- the logical bits as they stand, and the last one first
abbrev pub straight : List ℕ
straight = cut (λ t. t) 0 54

abbrev pub reversed : List ℕ
reversed = cut (λ t. 53 - t) 0 54

-- the default order with its first two entries, bits 0 and 31, exchanged: so bit 0 of word A comes one place closer to bit 1, at place 7
abbrev pub exchanged : List ℕ
exchanged = 31 ∷ 0 ∷ drop 2 default_order

-- no orders: number 1 twice and 0 not at all; number 54 in the place of 0; an entry less; an entry more
abbrev pub twice : List ℕ
twice = 1 ∷ drop 1 straight

abbrev pub past : List ℕ
past = 54 ∷ drop 1 straight

abbrev pub exchanged_bytes : List ℕ
exchanged_bytes = 0x40 ∷ 0x56 ∷ 0x0D ∷ 0x40 ∷ 0x15 ∷ 0x00 ∷ 0x10 ∷ []

-- which lists are orders
pub record Tested : Type 0 where
  pub straight_is : is_order straight ≡ true
  pub reversed_is : is_order reversed ≡ true
  pub exchanged_is : is_order exchanged ≡ true
  pub number_twice : is_order twice ≡ false
  pub number_past : is_order past ≡ false
  pub entry_less : is_order (drop 1 straight) ≡ false
  pub entry_more : is_order (53 ∷ straight) ≡ false

-- the frame of example 6 in them: the logical bits themselves, these from the last one on, and example 6's with its first two places exchanged
pub record Packed : Type 0 where
  pub in_straight : frame straight ninety fresh_sync ≡ 0xB4 ∷ 0x55 ∷ 0x54 ∷ 0x60 ∷ 0x00 ∷ 0x00 ∷ 0x00 ∷ []
  pub in_exchanged : frame exchanged ninety fresh_sync ≡ exchanged_bytes
  pub in_reversed : frame reversed ninety fresh_sync ≡ 0x00 ∷ 0x00 ∷ 0x00 ∷ 0x18 ∷ 0xAA ∷ 0xA8 ∷ 0xB4 ∷ []

-- what is packed in an order is received in it as example 6's frame is in the default one, with and without confidences
pub record Received : Type 0 where
  pub plain : receive exchanged fresh exchanged_bytes ≡ receive default_order fresh ninety_bytes
  pub soft : soft_receive exchanged fresh exchanged_bytes (replicate 54 200) ≡ receive default_order fresh ninety_bytes

-- a list that is no order is refused after a short output and a frame of another length, and before padding, confidences, a record and a set
pub record Refused : Type 0 where
  pub output_first : pack_refusal twice (voiced 1) 6 ≡ Some ShortOutput
  pub order_before_set : pack_refusal twice (voiced 1) 7 ≡ Some InvalidOrder
  pub set_last : pack_refusal straight (voiced 1) 7 ≡ Some OutOfRange
  pub length_first : frame_refusal twice (drop 1 ninety_bytes) ≡ Some FrameLength
  pub order_before_padding : frame_refusal twice (replicate 7 1) ≡ Some InvalidOrder
  pub padding_last : frame_refusal straight (replicate 7 1) ≡ Some PaddingBits
  pub order_before_record : receive_refusal past (kept 32) ninety_bytes ≡ Some InvalidOrder
  pub order_before_confidences : soft_refusal twice fresh ninety_bytes (replicate 53 200) ≡ Some InvalidOrder

-- burst widths
pub record Widths : Type 0 where
  pub straight_width : burst_width straight ≡ 1
  pub exchanged_width : burst_width exchanged ≡ 6

pub record OrderExamples : Type 0 where
  pub tested : Tested
  pub packed : Packed
  pub received : Received
  pub refused : Refused
  pub widths : Widths
