-- What a receiver with a valid record makes of a packed frame, in any order: as sent it returns, and after a channel's flips it is
-- accepted or repeated as the laws of reading say.
-- Assumes nothing.
use mathlib.Core.Path.{◌≡◌, refl, ap, ap₂, ◌∙◌, subst⁻¹}
use mathlib.Core.Logic.{◌⊎◌, inl, inr}
use mathlib.Core.Bool.{Bool, not, ◌&&◌}
use mathlib.Core.List.{List}
use Prim.Native.Nat.{ℕ, ◌≤◌, ◌<◌}
use lib.Dec.{T, eqb, lit<}
use Rattle.std.specs.Prelude.{Option, None, Some}
use Rattle.bits.specs.Bits.{◌⊻◌, ones}
use Rattle.bits.proofs.Tests.{and_left, and_right}
use Rattle.order.specs.Order.{Order, place_of, logical_bit}
use Rattle.order.proofs.Frames.{sent_bit, received_bit}
use Rattle.order.proofs.Refusals.{packed_taken, through_taken}
use Rattle.sets.specs.Sets.{indices_fit, voicing_fits, sendable}
use Rattle.frame.specs.Layout.{logical_of, frame}
use Rattle.frame.proofs.Places.{unvoiced_places, voiced_places}
use Rattle.reading.specs.declared.Accepted.{Accepted}
use Rattle.order.specs.Fields.{word_a, pitch_bits, sync_bit}
use Rattle.reading.specs.Reading.{read}
use Rattle.bursts.specs.Flips.{logical_flips, Correctable, protected_flips}
use Rattle.sets.specs.declared.Indices.{Indices}
use Rattle.sets.specs.declared.Voicing.{Voicing}
use Rattle.sets.specs.declared.ParameterSet.{ParameterSet}
use Rattle.sets.specs.declared.ParameterSet.TheVariants.{Unvoiced, Voiced}
use Rattle.sets.proofs.Ranges.{voicing_ranges}
use Rattle.damage.proofs.VoicedFrames.{set_is_voiced, voiced_or_erased}
use Rattle.damage.proofs.Repair.{seen}
use Rattle.damage.proofs.AnyOrder.{arrived, packed_returns, correctable_returns, double_erased, voiced_returns}
use Rattle.records.specs.Records.{valid}
use Rattle.receiver.specs.Steps.{accepted, repeated, step}
use Rattle.receiver.specs.Receiving.{receive}
use Rattle.receiver.specs.declared.Kind.TheVariants as kind
use Rattle.records.specs.declared.Record.{Record}
use Rattle.receiver.specs.declared.Received.{Received}
use Rattle.receiver.proofs.Results.{result_in}
use Rattle.receiver.proofs.Refusals.{not_refused, receive_taken}

-- a voiced set that is accepted has the kind voiced
voiced_kind : (r : Record) (sync : Bool) (set : ParameterSet) (k : ℕ) → T (set_is_voiced set)
    → ((result_in (accepted r sync set k).answer).kind ≡ kind.Voiced) ⊎ ((result_in (accepted r sync set k).answer).kind ≡ kind.Repeat)
unfolding accepted
voiced_kind r sync (Unvoiced x) k t = absurd t
voiced_kind r sync (Voiced x v) k t = inl refl

-- what is not read unvoiced has the kind voiced or repeat
step_kind : (r : Record) (sync : Bool) (x : Option Accepted) → T (voiced_or_erased x)
    → ((result_in (step r sync x).answer).kind ≡ kind.Voiced) ⊎ ((result_in (step r sync x).answer).kind ≡ kind.Repeat)
unfolding accepted repeated
step_kind r sync (Some x) t = voiced_kind r sync x.set x.repaired t
step_kind r sync None t = inr refl

-- the pitch index of a voiced set that a sender takes
sendable_pitch : (x : Indices) (v : Voicing) → T (sendable (Voiced x v)) → v.pitch < 99
sendable_pitch x v t =
    (voicing_ranges v (and_right (indices_fit x) (voicing_fits v) (and_left (indices_fit x && voicing_fits v) (not (eqb v.bandpass 1)) t))).pitch

-- the sync bit of a set's logical bits
sync_bit_lem : (set : ParameterSet) (sync : Bool) → sync_bit (logical_of set sync) ≡ sync
sync_bit_lem (Unvoiced x) sync = (unvoiced_places x sync).4.4
sync_bit_lem (Voiced x v) sync = (voiced_places x v sync).4.4

module _ (ord : List ℕ) (o : Order ord) (r : Record) (ok : T (valid r)) (sync : Bool) where
  -- demand 2: the frame of a set that a sender takes is accepted as that set, with nothing repaired and its own sync bit
  pub packed_accepted : (set : ParameterSet) → T (sendable set) → receive ord r (frame ord set sync) ≡ accepted r sync set 0
  packed_accepted set t =
      receive_taken ord r (frame ord set sync) (not_refused ord r (frame ord set sync) (packed_taken ord o (logical_of set sync)) ok)
      ∙ ap₂ (step r) (sent_bit ord o (logical_of set sync) 53 (lit< tt) ∙ sync_bit_lem set sync) (packed_returns ord o set sync t)

  module _ (fl : ℕ → Bool) where
    -- the sync bit in the frame that arrives
    abbrev pub sync_arrived : Bool
    sync_arrived = sync ⊻ fl (place_of ord 53)

    -- a packed frame is never refused, whatever a channel does to it
    pub arrived_taken : (set : ParameterSet) → receive ord r (arrived ord set sync fl) ≡ step r sync_arrived (read (logical_bit ord (arrived ord set sync fl)))
    arrived_taken set =
        receive_taken ord r (arrived ord set sync fl)
        (not_refused ord r (arrived ord set sync fl) (through_taken ord fl (frame ord set sync) (packed_taken ord o (logical_of set sync))) ok)
        ∙ ap (λ (b : Bool). step r b (read (logical_bit ord (arrived ord set sync fl))))
        (received_bit ord o (logical_of set sync) fl 53 (lit< tt) ∙ ap (λ (b : Bool). b ⊻ fl (place_of ord 53)) (sync_bit_lem set sync))

    -- a frame that document 01 calls light is accepted with L1, G2 and G1 as sent, and every flip counted
    pub correctable_accepted : (x : Indices) → T (sendable (Unvoiced x)) → Correctable (logical_flips ord fl)
        → receive ord r (arrived ord (Unvoiced x) sync fl)
        ≡ accepted r sync_arrived (Unvoiced (seen x sync (logical_flips ord fl))) (protected_flips (logical_flips ord fl))
    correctable_accepted x t k = arrived_taken (Unvoiced x) ∙ ap (step r sync_arrived) (correctable_returns ord o x sync fl t k)

    -- sent unvoiced, exactly two flips in word A and at most one in the pitch code: a repeat
    pub double_repeated : (x : Indices) → ones (word_a (logical_flips ord fl)) ≡ 2 → ones (pitch_bits (logical_flips ord fl)) ≤ 1
        → receive ord r (arrived ord (Unvoiced x) sync fl) ≡ repeated r sync_arrived
    double_repeated x a p = arrived_taken (Unvoiced x) ∙ ap (step r sync_arrived) (double_erased ord o x sync fl a p)

    -- sent voiced, at most one flip in the pitch code: the result is voiced, or a repeat
    pub voiced_kept : (x : Indices) (v : Voicing) → T (sendable (Voiced x v)) → ones (pitch_bits (logical_flips ord fl)) ≤ 1
        → let result = result_in (receive ord r (arrived ord (Voiced x v) sync fl)).answer in (result.kind ≡ kind.Voiced) ⊎ (result.kind ≡ kind.Repeat)
    voiced_kept x v t p =
        subst⁻¹ (λ (y : Received). ((result_in y.answer).kind ≡ kind.Voiced) ⊎ ((result_in y.answer).kind ≡ kind.Repeat)) (arrived_taken (Voiced x v))
        (step_kind r sync_arrived (read (logical_bit ord (arrived ord (Voiced x v) sync fl))) (voiced_returns ord o x v sync fl (sendable_pitch x v t) p))
