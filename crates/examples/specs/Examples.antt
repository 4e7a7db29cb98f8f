-- Document 01, "Examples", in its own numbers. Bits are written in binary, first bit first.
use Rattle.std.specs.Prelude.{ℕ, ◌*◌, ◌≡◌, Bool, true, false, List, [], ◌∷◌, ◌++◌, map, eqb, ℤ, pos, length, replicate, None, Ok}
use Rattle.bits.specs.Bits.{bits}
use Rattle.pitch.specs.Pitch.{class_answer}
use Rattle.pitch.specs.declared.PitchClass.TheVariants as pitch
use Rattle.hamming.specs.Word.{parity_of, encode, flip_at, read_as, decode}
use Rattle.order.specs.Order.{times, default_order, logical_bit, frame_refusal, through}
use Rattle.gain.specs.Levels.{first_level_answer}
use Rattle.quantiser.specs.Choice.{choose_answer}
use Rattle.frame.specs.Packing.{fresh_sync, pack_answer, pack_writes}
use Rattle.reading.specs.Reading.{read}
use Rattle.sets.specs.declared.ParameterSet.{ParameterSet}
use Rattle.sets.specs.declared.ParameterSet.TheVariants.{Unvoiced}
use Rattle.records.specs.Records.{fresh}
use Rattle.receiver.specs.Receiving.{receive}
use Rattle.receiver.specs.declared.FrameResult.{FrameResult}
use Rattle.receiver.specs.declared.Kind.TheVariants as kind
use Rattle.codebook_values.specs.Values.{lsf_answer, lsf_writes}
use Rattle.calls.specs.Model.{Answer, done, refused, outcomes, receive_model, receive_kind, ReceiveArguments}
use Rattle.bits.specs.Lists.{Every}

-- 1: classes of pitch codes
pub record PitchCodes : Type 0 where
  pub zero_ones : class_answer 0x00 ≡ Ok pitch.Unvoiced
  pub one_one : class_answer 0x40 ≡ Ok pitch.Unvoiced
  pub two_ones : class_answer 0x60 ≡ Ok pitch.Erased
  pub lowest : class_answer 0x07 ≡ Ok (pitch.Voiced 0)
  pub middle : class_answer 0x70 ≡ Ok (pitch.Voiced 83)
  pub highest : class_answer 0x7F ≡ Ok (pitch.Voiced 98)

-- 2: word A of data 1011, as sent and with flips; bits 0 to 3 are u0 to u3, bits 4 to 7 are p0 to p3
pub record WordA : Type 0 where
  pub parity : parity_of 8 (bits 4 0b1011) ≡ bits 4 0b0100
  pub one_flip : decode 8 (flip_at 0 (encode 8 (bits 4 0b1011))) ≡ read_as 0b1011 1
  pub two_flips : decode 8 (flip_at 0 (flip_at 1 (encode 8 (bits 4 0b1011)))) ≡ None
  pub three_flips : decode 8 (flip_at 4 (flip_at 5 (flip_at 6 (encode 8 (bits 4 0b1011))))) ≡ read_as 0b1010 1

-- 3: word B of data 010
pub record WordB : Type 0 where
  pub parity : parity_of 6 (bits 3 0b010) ≡ bits 3 0b101

-- 4: first levels and first codes after G2 = 10, where G2 = 11, whose level is 6282
pub record FirstLevels : Type 0 where
  pub code_0 : first_level_answer 11 0 10 ≡ Ok 6081
  pub code_1 : first_level_answer 11 1 10 ≡ Ok 4764
  pub code_7 : first_level_answer 11 7 10 ≡ Ok 7398
  pub steady : choose_answer (pos 6639) (pos 6282) 10 ≡ Ok (record { g2 = 11; g1 = 0 })
  pub transition : choose_answer (pos 6640) (pos 6282) 10 ≡ Ok (record { g2 = 11; g1 = 5 })

-- 5: second codes on both sides of a threshold, in a sender that starts; the first level is the same
pub record SecondCodes : Type 0 where
  pub on_threshold : choose_answer (pos 2061) (pos 2061) 0 ≡ Ok (record { g2 = 0; g1 = 0 })
  pub above : choose_answer (pos 2062) (pos 2062) 0 ≡ Ok (record { g2 = 1; g1 = 0 })

-- 6: the frame of L1 = 90, G2 = 11, all else 0, unvoiced, from a fresh sender
abbrev pub ninety : ParameterSet
ninety = Unvoiced (record { l1 = 90; l2 = 0; l3 = 0; l4 = 0; g2 = 11; g1 = 0 })

abbrev pub ninety_bytes : List ℕ
ninety_bytes = 0x80 ∷ 0x56 ∷ 0x0D ∷ 0x40 ∷ 0x15 ∷ 0x00 ∷ 0x10 ∷ []

pub record Frames : Type 0 where
  pub ninety_answer : pack_answer default_order ninety fresh_sync 7 ≡ Ok true
  pub ninety_packed : pack_writes default_order ninety fresh_sync (replicate 7 0) ≡ ninety_bytes

-- 7: that frame with two places changed, in a fresh receiver: as sent and both flips counted, or a repeat, which shows a set of zeros
abbrev pub zeros : ParameterSet
zeros = Unvoiced (record { l1 = 0; l2 = 0; l3 = 0; l4 = 0; g2 = 0; g1 = 0 })

abbrev pub changed : List ℕ → List ℕ
changed places = through (λ t. eqb (times t places) 1) ninety_bytes

pub record TwoFlips : Type 0 where
  pub repaired : (receive default_order fresh (changed (0 ∷ 6 ∷ []))).answer ≡ Ok (record {
    kind = kind.Unvoiced;
    set = ninety;
    first = 4071;
    second = 6282;
    mute = false;
    sync = false;
    repaired = 2;
  })
  pub repeats : (receive default_order fresh (changed (0 ∷ 7 ∷ []))).answer ≡ Ok (record {
    kind = kind.Repeat;
    set = zeros;
    first = 1860;
    second = 1860;
    mute = false;
    sync = false;
    repaired = 0;
  })

-- 8: ten sums in hertz, of which the second is too close to the first: the row of L1 = 0 in a codebook that has 0 everywhere else
abbrev pub millionths : List ℕ → List ℤ
millionths hertz = map (λ n. pos (1000000 * n)) hertz

abbrev pub codebook : List ℤ
codebook = millionths (300 ∷ 340 ∷ 500 ∷ 800 ∷ 1100 ∷ 1400 ∷ 1700 ∷ 2000 ∷ 2300 ∷ 2600 ∷ []) ++ replicate 3190 (pos 0)

pub record Spacing : Type 0 where
  pub answer : lsf_answer zeros codebook 10 ≡ Ok tt
  pub second_raised : lsf_writes zeros codebook (replicate 10 (pos 0))
      ≡ millionths (300 ∷ 350 ∷ 500 ∷ 800 ∷ 1100 ∷ 1400 ∷ 1700 ∷ 2000 ∷ 2300 ∷ 2600 ∷ [])

-- 9: any eight erased frames from fresh; the seventh is not mute, the eighth is
pub record Erases (bytes : List ℕ) : Type 0 where
  pub taken : frame_refusal default_order bytes ≡ None
  pub erased : read (logical_bit default_order bytes) ≡ None

-- a frame received in the default order
abbrev pub in_default : List ℕ → ReceiveArguments
in_default bytes = record { order = default_order; frame = bytes }

abbrev pub mute_in : Answer FrameResult → Bool
mute_in (done x) = x.mute
mute_in (refused n) = false

pub record Mutes : Type 0 where
  -- one such frame: that of example 7 with places 0 and 7 changed
  pub erased : Erases (changed (0 ∷ 7 ∷ []))
  pub eight : (frames : List (List ℕ)) → length frames ≡ 8 → Every Erases frames
      → map (λ o. mute_in o.answer) (outcomes (receive_model receive_kind) fresh (map in_default frames))
      ≡ false ∷ false ∷ false ∷ false ∷ false ∷ false ∷ false ∷ true ∷ []

-- all together
pub record Examples : Type 0 where
  pub example_1 : PitchCodes
  pub example_2 : WordA
  pub example_3 : WordB
  pub example_4 : FirstLevels
  pub example_5 : SecondCodes
  pub example_6 : Frames
  pub example_7 : TwoFlips
  pub example_8 : Spacing
  pub example_9 : Mutes
