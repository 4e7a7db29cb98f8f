-- Worked examples of our own, beside document 01's nine: in each a slip in definition and code together shows. Numbers are worked out by hand
-- from the documents.
use Rattle.std.specs.Prelude.{ℕ, ◌≡◌, true, false, List, [], ◌∷◌, ◌++◌, pos, replicate, None, Some, Ok}
use Rattle.refusal.specs.declared.Refusal.TheVariants.{InvalidRecord, OutOfRange, ConfidenceCount}
use Rattle.bits.specs.Bits.{bits}
use Rattle.hamming.specs.Word.{encode, flip_at, read_as, decode}
use Rattle.soft.specs.Choice.{choose}
use Rattle.order.specs.Order.{default_order}
use Rattle.sets.specs.declared.ParameterSet.{ParameterSet}
use Rattle.sets.specs.declared.ParameterSet.TheVariants.{Voiced}
use Rattle.quantiser.specs.Choice.{choose_answer}
use Rattle.frame.specs.Packing.{fresh_sync, pack_refusal, pack_answer, pack_writes}
use Rattle.records.specs.Records.{fresh, accepted_kind}
use Rattle.records.specs.declared.Record.{Record}
use Rattle.receiver.specs.Receiving.{receive_refusal, receive}
use Rattle.receiver.specs.SoftReceiving.{soft_refusal, soft_receive}
use Rattle.receiver.specs.declared.Kind.TheVariants as kind
use Rattle.examples.specs.Examples.{ninety, ninety_bytes, zeros, changed}

-- a voiced set with fields all different, its bandpass bits B given
abbrev pub voiced : ℕ → ParameterSet
voiced b = Voiced (record { l1 = 77; l2 = 13; l3 = 38; l4 = 55; g2 = 21; g1 = 5 }) (record { pitch = 83; bandpass = b; fourier = 105; aperiodic = 1 })

abbrev pub voiced_bytes : List ℕ
voiced_bytes = 0xAE ∷ 0x28 ∷ 0xCC ∷ 0x72 ∷ 0x67 ∷ 0xFE ∷ 0xA0 ∷ []

-- its frame by a fresh sender, and what a fresh receiver makes of it; with B = 1 it is not sent
pub record VoicedSet : Type 0 where
  pub answer : pack_answer default_order (voiced 2) fresh_sync 7 ≡ Ok true
  pub packed : pack_writes default_order (voiced 2) fresh_sync (replicate 7 0) ≡ voiced_bytes
  pub received : (receive default_order fresh voiced_bytes).answer ≡ Ok (record {
    kind = kind.Voiced;
    set = voiced 2;
    first = 7860;
    second = 10302;
    mute = false;
    sync = false;
    repaired = 0;
  })
  pub bandpass_one : pack_refusal default_order (voiced 1) 7 ≡ Some OutOfRange

-- a record whose last set has another G2 than its last G2
abbrev pub kept : ℕ → Record
kept g2 = record { last = voiced 2; g2 = g2; kinds = replicate 16 accepted_kind; repeats = 0 }

-- a repeat there, by example 7's frame: the last set with its own G2, at the level of the last G2, which is 6282 for G2 = 11
pub record Repeat : Type 0 where
  pub level_kept : (receive default_order (kept 11) (changed (0 ∷ 7 ∷ []))).answer ≡ Ok (record {
    kind = kind.Repeat;
    set = voiced 2;
    first = 6282;
    second = 6282;
    mute = false;
    sync = false;
    repaired = 0;
  })

-- the record's G2 goes to 31
pub record RecordRange : Type 0 where
  pub highest : receive_refusal default_order (kept 31) ninety_bytes ≡ None
  pub past : receive_refusal default_order (kept 32) ninety_bytes ≡ Some InvalidRecord

-- document 02, T-02, by example 6's frame: u0 and p2 of its word B, at places 2 and 37, leave the column of the spare, 111, and the frame is
-- a repeat; u3 of its word C, at place 11, leaves 111 too and is put right
pub record SpareSyndrome : Type 0 where
  pub erased : decode 6 (flip_at 0 (flip_at 5 (encode 6 (bits 3 0b010)))) ≡ None
  pub in_seven_bits : decode 7 (flip_at 3 (encode 7 (bits 4 0b0101))) ≡ read_as 0b0101 1
  pub repeats : (receive default_order fresh (changed (2 ∷ 37 ∷ []))).answer ≡ Ok (record {
    kind = kind.Repeat;
    set = zeros;
    first = 1860;
    second = 1860;
    mute = false;
    sync = false;
    repaired = 0;
  })
  pub repaired : (receive default_order fresh (changed (11 ∷ []))).answer ≡ Ok (record {
    kind = kind.Unvoiced;
    set = ninety;
    first = 4071;
    second = 6282;
    mute = false;
    sync = false;
    repaired = 1;
  })

-- document 02, T-05: word A of data 1011 came with u0 and u1 flipped, which is as far from three other code words. Where u0 and u1 cost 3 and 1, u2 and
-- p3 decide: as much as these erase, more leave 1011, less give 0101. Word B of data 010 came with its parity flipped: at equal confidences three
-- code words cost 2, and 000 wins; at confidences of 0 in the parity it stands. A place of 255 costs as much as places of 254 and 1
abbrev pub costly : ℕ → List ℕ
costly p3 = 3 ∷ 1 ∷ 2 ∷ 50 ∷ 50 ∷ 50 ∷ 50 ∷ p3 ∷ []

-- the 54 confidences of a frame: 40 at place 0, 0 at place 2, 60 at place 7, 200 at every other. Places 0 and 7 have u0 and u1 of word A, place 2 has u0
-- of word B; taken by logical number the 0 would go to u2 of word A, and 0101 would be cheapest there
abbrev pub doubtful : List ℕ
doubtful = 40 ∷ 200 ∷ 0 ∷ replicate 4 200 ++ 60 ∷ replicate 46 200

-- example 7's frame, which is a repeat without confidences and with equal ones, is mended with these; 53 confidences are refused
pub record Confidences : Type 0 where
  pub tied : choose 8 (costly 2) (bits 8 0b01110100) ≡ None
  pub dearer : choose 8 (costly 3) (bits 8 0b01110100) ≡ read_as 0b1011 2
  pub cheaper : choose 8 (costly 1) (bits 8 0b01110100) ≡ read_as 0b0101 2
  pub smallest : choose 6 (replicate 6 1) (bits 6 0b010010) ≡ read_as 0b000 2
  pub stands : choose 6 (1 ∷ 1 ∷ 1 ∷ 0 ∷ 0 ∷ 0 ∷ []) (bits 6 0b010010) ≡ read_as 0b010 3
  pub highest : choose 7 (255 ∷ 255 ∷ 255 ∷ 255 ∷ 254 ∷ 1 ∷ 255 ∷ []) (bits 7 0b1110110) ≡ read_as 0b0110 1
  pub highest_sum : choose 7 (255 ∷ 255 ∷ 255 ∷ 255 ∷ 254 ∷ 1 ∷ 255 ∷ []) (bits 7 0b0110000) ≡ read_as 0b0110 2
  pub repeats : (soft_receive default_order fresh (changed (0 ∷ 7 ∷ [])) (replicate 54 200)).answer ≡ Ok (record {
    kind = kind.Repeat;
    set = zeros;
    first = 1860;
    second = 1860;
    mute = false;
    sync = false;
    repaired = 0;
  })
  pub mended : (soft_receive default_order fresh (changed (0 ∷ 7 ∷ [])) doubtful).answer ≡ Ok (record {
    kind = kind.Unvoiced;
    set = ninety;
    first = 4071;
    second = 6282;
    mute = false;
    sync = false;
    repaired = 2;
  })
  pub one_missing : soft_refusal default_order fresh ninety_bytes (replicate 53 200) ≡ Some ConfidenceCount

-- first levels at the mean, 5880 where q = 9 and 5679 where q = 8: steady for a distance of 2, and for one of 3 the fourth of the seven levels
pub record Distance : Type 0 where
  pub two : choose_answer (pos 5880) (pos 6282) 9 ≡ Ok (record { g2 = 11; g1 = 0 })
  pub three : choose_answer (pos 5679) (pos 6282) 8 ≡ Ok (record { g2 = 11; g1 = 4 })

-- a voiced set by its indices, with the largest Fourier index
abbrev pub set_of : ℕ → ℕ → ℕ → ℕ → ℕ → ℕ → ℕ → ℕ → ℕ → ParameterSet
set_of l1 l2 l3 l4 g2 g1 p b ap =
    Voiced (record { l1 = l1; l2 = l2; l3 = l3; l4 = l4; g2 = g2; g1 = g1 }) (record { pitch = p; bandpass = b; fourier = 255; aperiodic = ap })

-- every index at its upper limit is sent; with any of them one higher the set is refused as out of range
pub record Limits : Type 0 where
  pub highest : pack_refusal default_order (set_of 127 63 63 63 31 7 98 15 1) 7 ≡ None
  pub l1 : pack_refusal default_order (set_of 128 63 63 63 31 7 98 15 1) 7 ≡ Some OutOfRange
  pub l2 : pack_refusal default_order (set_of 127 64 63 63 31 7 98 15 1) 7 ≡ Some OutOfRange
  pub l3 : pack_refusal default_order (set_of 127 63 64 63 31 7 98 15 1) 7 ≡ Some OutOfRange
  pub l4 : pack_refusal default_order (set_of 127 63 63 64 31 7 98 15 1) 7 ≡ Some OutOfRange
  pub g2 : pack_refusal default_order (set_of 127 63 63 63 32 7 98 15 1) 7 ≡ Some OutOfRange
  pub g1 : pack_refusal default_order (set_of 127 63 63 63 31 8 98 15 1) 7 ≡ Some OutOfRange
  pub pitch : pack_refusal default_order (set_of 127 63 63 63 31 7 99 15 1) 7 ≡ Some OutOfRange
  pub bandpass : pack_refusal default_order (set_of 127 63 63 63 31 7 98 16 1) 7 ≡ Some OutOfRange
  pub aperiodic : pack_refusal default_order (set_of 127 63 63 63 31 7 98 15 2) 7 ≡ Some OutOfRange

-- all together
pub record WorkedExamples : Type 0 where
  pub voiced_set : VoicedSet
  pub repeat : Repeat
  pub record_range : RecordRange
  pub spare_syndrome : SpareSyndrome
  pub confidences : Confidences
  pub distance : Distance
  pub limits : Limits
