-- Demand 3: what is claimed of one frame, and of one frame after another.
use Rattle.std.specs.Prelude.{ℕ, ◌≤◌, ◌≡◌, ◌⊎◌, Bool, List}
use Rattle.bits.specs.Bits.{ones}
use Rattle.sets.specs.Sets.{indices_in}
use Rattle.order.specs.Fields.{word_a, pitch_bits}
use Rattle.bursts.specs.Flips.{logical_flips, Correctable, protected_flips, Within}
use Rattle.sets.specs.declared.ParameterSet.{ParameterSet}
use Rattle.receiver.specs.Steps.{kind_of}
use Rattle.receiver.specs.declared.FrameResult.{FrameResult}
use Rattle.receiver.specs.declared.Kind.TheVariants.{Unvoiced, Voiced, Repeat}
use Rattle.calls.specs.Model.{PackKind, ReceiveKind}
use Rattle.calls.specs.Calls.{PackCall, set_in, ReceiveCall}

-- a frame by the set that was packed and the places that the channel changed; it is sent unvoiced or voiced as its set is
module _ (ord : List ℕ) (set : ParameterSet) (flips : ℕ → Bool) where
  -- the flips in its pitch code, and in its eight-bit word
  abbrev pub pitch_flips : ℕ
  pitch_flips = ones (pitch_bits (logical_flips ord flips))

  abbrev pub eight_bit_flips : ℕ
  eight_bit_flips = ones (word_a (logical_flips ord flips))

  -- document 01's light frame: sent unvoiced, at most one flip in its pitch code and in each of its four words
  pub record CorrectableFrame : Type 0 where
    pub unvoiced : kind_of set ≡ Unvoiced
    pub few : Correctable (logical_flips ord flips)

  module _ (result : FrameResult) where
    -- read unvoiced with its first LSF index and both gain codes, and every flip in its pitch code and four words counted
    pub record ReadAsSent : Type 0 where
      pub kind : result.kind ≡ Unvoiced
      pub l1 : (indices_in result.set).l1 ≡ (indices_in set).l1
      pub g2 : (indices_in result.set).g2 ≡ (indices_in set).g2
      pub g1 : (indices_in result.set).g1 ≡ (indices_in set).g1
      pub repaired : result.repaired ≡ protected_flips (logical_flips ord flips)

    -- what is claimed of its result; bursts of `width` neighbouring places are to be correctable
    pub record FrameClaim (width : ℕ) : Type 0 where
      pub correctable : CorrectableFrame → ReadAsSent
      pub double : kind_of set ≡ Unvoiced → eight_bit_flips ≡ 2 → pitch_flips ≤ 1 → result.kind ≡ Repeat
      pub voiced : kind_of set ≡ Voiced → pitch_flips ≤ 1 → (result.kind ≡ Voiced) ⊎ (result.kind ≡ Repeat)
      pub burst : kind_of set ≡ Unvoiced → Within width flips → CorrectableFrame

-- both gain levels of two results are the same
pub record SameLevels (x y : FrameResult) : Type 0 where
  pub first : x.first ≡ y.first
  pub second : x.second ≡ y.second

-- a frame on its way: the call that packed it, the places that the channel changed, the call that received it with its result,
-- and the result of the clean receiver (document 01's unharmed one) there
pub record Row (P : PackKind) (R : ReceiveKind) : Type 0 where
  pub packing : PackCall P
  pub flips : ℕ → Bool
  pub receiving : ReceiveCall R
  pub result : FrameResult
  pub clean : FrameResult

module _ {P : PackKind} {R : ReceiveKind} where
  abbrev pub set_of : Row P R → ParameterSet
  set_of w = set_in w.packing

  abbrev pub RowClaim : List ℕ → ℕ → Row P R → Type 0
  RowClaim ord width w = FrameClaim ord (set_of w) w.flips w.result width

  -- what is claimed of frame w packed just after frame v: where both are correctable, its gain levels are those of the clean receiver
  abbrev pub PairClaim : List ℕ → Row P R → Row P R → Type 0
  PairClaim ord v w = CorrectableFrame ord (set_of v) v.flips → CorrectableFrame ord (set_of w) w.flips → SameLevels w.result w.clean
