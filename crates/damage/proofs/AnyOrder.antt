-- The laws of frames in any order: a packed set returns as itself, and flips of places act as flips of logical bits.
-- Assumes nothing.
use mathlib.Core.Path.{◌≡◌, ◌∙◌, subst⁻¹}
use mathlib.Core.Bool.{Bool}
use mathlib.Core.List.{List}
use Prim.Native.Nat.{ℕ, ◌≤◌, ◌<◌}
use native.Mathlib.Omega.{arith}
use lib.Dec.{T}
use Rattle.std.specs.Prelude.{Option, None}
use Rattle.bits.specs.Bits.{ones}
use Rattle.order.specs.Order.{Order, logical_bit, through}
use Rattle.order.proofs.Frames.{sent_bit, received_bit}
use Rattle.sets.specs.Sets.{sendable}
use Rattle.frame.specs.Layout.{logical_of, frame}
use Rattle.order.specs.Fields.{word_a, pitch_bits}
use Rattle.reading.specs.Reading.{accepted_as, read}
use Rattle.bursts.specs.Flips.{logical_flips, Correctable, protected_flips}
use Rattle.sets.specs.declared.Indices.{Indices}
use Rattle.sets.specs.declared.Voicing.{Voicing}
use Rattle.sets.specs.declared.ParameterSet.{ParameterSet}
use Rattle.sets.specs.declared.ParameterSet.TheVariants.{Unvoiced, Voiced}
use Rattle.reading.specs.declared.Accepted.{Accepted}
use Rattle.sets.proofs.Ranges.{index_ranges, sendable_fits}
use Rattle.damage.proofs.Repair.{damaged, seen, correctable_read, double_read}
use Rattle.damage.proofs.VoicedFrames.{voiced_or_erased, voiced_read}
use Rattle.damage.proofs.Return.{read_back}
use Rattle.reading.proofs.Extent.{read_ext}

-- the frame of a set as it arrives: packed in an order, through a channel's flips
abbrev pub arrived : List ℕ → ParameterSet → Bool → (ℕ → Bool) → List ℕ
arrived ord set sync fl = through fl (frame ord set sync)

module _ (ord : List ℕ) (o : Order ord) where
  -- demand 2: the frame of a set that a sender takes is read as that set, with nothing repaired
  pub packed_returns : (set : ParameterSet) (sync : Bool) → T (sendable set) → read (logical_bit ord (frame ord set sync)) ≡ accepted_as set 0
  packed_returns set sync t =
      read_ext (logical_bit ord (frame ord set sync)) (logical_of set sync) (λ j h. sent_bit ord o (logical_of set sync) j (omega arith))
      ∙ read_back set sync (sendable_fits set t)

  -- a received frame is read as the damaged bits
  pub received_read : (set : ParameterSet) (sync : Bool) (fl : ℕ → Bool)
      → read (logical_bit ord (arrived ord set sync fl)) ≡ read (damaged (logical_of set sync) (logical_flips ord fl))
  received_read set sync fl =
      read_ext (logical_bit ord (arrived ord set sync fl)) (damaged (logical_of set sync) (logical_flips ord fl))
      (λ j h. received_bit ord o (logical_of set sync) fl j (omega arith))

  module _ (x : Indices) (sync : Bool) (fl : ℕ → Bool) where
    -- the light-frame law: at most one flip in the pitch code and in each word leaves L1, G2 and G1 as sent, and every flip counted
    pub correctable_returns : T (sendable (Unvoiced x)) → Correctable (logical_flips ord fl)
        → read (logical_bit ord (arrived ord (Unvoiced x) sync fl))
        ≡ accepted_as (Unvoiced (seen x sync (logical_flips ord fl))) (protected_flips (logical_flips ord fl))
    correctable_returns t k = received_read (Unvoiced x) sync fl ∙ correctable_read x sync (logical_flips ord fl) k (index_ranges x t)

    -- exactly two flips in word A, and at most one in the pitch code, erase a frame sent unvoiced
    pub double_erased : ones (word_a (logical_flips ord fl)) ≡ 2 → ones (pitch_bits (logical_flips ord fl)) ≤ 1
        → read (logical_bit ord (arrived ord (Unvoiced x) sync fl)) ≡ None
    double_erased a p = received_read (Unvoiced x) sync fl ∙ double_read x sync (logical_flips ord fl) a p

  -- at most one flip in its pitch code leaves a frame sent voiced voiced, or erases it
  pub voiced_returns : (x : Indices) (v : Voicing) (sync : Bool) (fl : ℕ → Bool) → v.pitch < 99 → ones (pitch_bits (logical_flips ord fl)) ≤ 1
      → T (voiced_or_erased (read (logical_bit ord (arrived ord (Voiced x v) sync fl))))
  voiced_returns x v sync fl h p =
      subst⁻¹ (λ (r : Option Accepted). T (voiced_or_erased r)) (received_read (Voiced x v) sync fl) (voiced_read x v sync (logical_flips ord fl) h p)
