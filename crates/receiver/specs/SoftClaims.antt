-- Document 02, T-05: what is claimed of receiving with confidences beside receiving without, in any order of the bits, for every record and every
-- frame, refused ones included. Proved in the law file of this name; the words stand in `reading:SoftClaims`.
use Rattle.std.specs.Prelude.{ℕ, ◌<◌, ◌≡◌, List, length, replicate, None}
use Rattle.pitch.specs.Pitch.{class_of}
use Rattle.pitch.specs.declared.PitchClass.TheVariants as class
use Rattle.order.specs.Order.{logical_bit}
use Rattle.order.specs.Fields.{word_a, pitch_bits, sync_bit}
use Rattle.sets.specs.declared.ParameterSet.TheVariants.{Unvoiced}
use Rattle.soft.specs.Claims.{Tied}
use Rattle.order.specs.SoftTaking.{confidence_of}
use Rattle.reading.specs.SoftClaims.{SpareShown, taken_indices, places_differing}
use Rattle.records.specs.declared.Record.{Record}
use Rattle.receiver.specs.Steps.{accepted, repeated}
use Rattle.receiver.specs.Receiving.{receive_refusal, receive}
use Rattle.receiver.specs.SoftReceiving.{soft_refusal, soft_receive}

module _ (ord : List ℕ) (r : Record) (bytes : List ℕ) where
  pub record SoftClaims : Type 0 where
    -- under a voiced or an erased pitch code any 54 confidences give the result and the record of the old way
    pub alone : (class_of (pitch_bits (logical_bit ord bytes)) ≡ class.Unvoiced → ⊥) → (confidences : List ℕ) → length confidences ≡ 54
        → soft_receive ord r bytes confidences ≡ receive ord r bytes
    -- under an unvoiced one, two or more cheapest in word A make a repeat, which reports no repair
    pub tied : (confidences : List ℕ) → soft_refusal ord r bytes confidences ≡ None → class_of (pitch_bits (logical_bit ord bytes)) ≡ class.Unvoiced
        → Tied 8 (word_a (confidence_of ord confidences)) (word_a (logical_bit ord bytes)) → soft_receive ord r bytes confidences ≡ repeated r (sync_bit (logical_bit ord bytes))
    -- else the frame is accepted with the data taken for its words, and reports the places that differ from these words and the pitch's own repair
    pub taken : (confidences : List ℕ) → soft_refusal ord r bytes confidences ≡ None → class_of (pitch_bits (logical_bit ord bytes)) ≡ class.Unvoiced
        → (Tied 8 (word_a (confidence_of ord confidences)) (word_a (logical_bit ord bytes)) → ⊥)
        → soft_receive ord r bytes confidences
        ≡ accepted r (sync_bit (logical_bit ord bytes)) (Unvoiced (taken_indices (logical_bit ord bytes) (confidence_of ord confidences)))
        (places_differing (logical_bit ord bytes) (confidence_of ord confidences))
    -- 54 equal ones above 0 give those of the old way under any pitch code, except where the spare is shown
    pub equal : (k : ℕ) → 0 < k → (SpareShown (logical_bit ord bytes) → ⊥) → soft_receive ord r bytes (replicate 54 k) ≡ receive ord r bytes
    -- there, where the frame and the record are not refused, the old way makes a repeat and this one accepts
    pub spare_repeated : SpareShown (logical_bit ord bytes) → receive_refusal ord r bytes ≡ None → receive ord r bytes ≡ repeated r (sync_bit (logical_bit ord bytes))
    pub spare_accepted : (k : ℕ) → 0 < k → SpareShown (logical_bit ord bytes) → receive_refusal ord r bytes ≡ None
        → soft_receive ord r bytes (replicate 54 k)
        ≡ accepted r (sync_bit (logical_bit ord bytes)) (Unvoiced (taken_indices (logical_bit ord bytes) (confidence_of ord (replicate 54 k))))
        (places_differing (logical_bit ord bytes) (confidence_of ord (replicate 54 k)))
