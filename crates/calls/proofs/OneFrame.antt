-- One packed frame, through any flips, into a receiver with any valid record: what demand 3 claims of its result.
-- Assumes nothing.
use mathlib.Core.Path.{◌≡◌, sym, ap, ◌∙◌}
use mathlib.Core.Bool.{Bool, true, false, false≢true}
use mathlib.Core.List.{List}
use Prim.Native.Nat.{ℕ}
use lib.Dec.{T}
use Rattle.order.specs.Order.{Order}
use Rattle.sets.specs.Sets.{indices_in, sendable}
use Rattle.frame.specs.Layout.{frame}
use Rattle.bursts.specs.Flips.{logical_flips, Correctable, Within}
use Rattle.damage.proofs.AnyOrder.{arrived}
use Rattle.sets.specs.declared.ParameterSet.{ParameterSet}
use Rattle.sets.specs.declared.ParameterSet.TheVariants.{Unvoiced, Voiced}
use Rattle.gain.specs.Levels.{first_level}
use Rattle.records.specs.Records.{valid}
use Rattle.receiver.specs.Steps.{accepted, repeated}
use Rattle.receiver.specs.Receiving.{receive}
use Rattle.receiver.specs.declared.FrameResult.{FrameResult}
use Rattle.receiver.specs.declared.Kind.{Kind}
use Rattle.receiver.specs.declared.Kind.TheVariants as kind
use Rattle.records.specs.declared.Record.{Record}
use Rattle.receiver.specs.declared.Received.{Received}
use Rattle.receiver.proofs.Results.{result_in}
use Rattle.damage.proofs.Arrival.{packed_accepted, correctable_accepted, double_repeated, voiced_kept}
use Rattle.calls.specs.Frames.{CorrectableFrame, FrameClaim, SameLevels}

-- a kind is unvoiced
is_unvoiced : Kind → Bool
is_unvoiced kind.Unvoiced = true
is_unvoiced kind.Voiced = false
is_unvoiced kind.Repeat = false

unvoiced≢voiced : kind.Unvoiced ≡ kind.Voiced → ⊥
unfolding is_unvoiced
unvoiced≢voiced e = false≢true (sym (ap is_unvoiced e))

module _ (ord : List ℕ) (o : Order ord) (width : ℕ) (spread : (fl : ℕ → Bool) → Within width fl → Correctable (logical_flips ord fl))
    (sync : Bool) (fl : ℕ → Bool) where
  -- the result of a set's frame as it comes, in a record
  abbrev pub result_of : Record → ParameterSet → FrameResult
  result_of r set = result_in (receive ord r (arrived ord set sync fl)).answer

  -- the result of the frame as it was sent
  abbrev pub clean_of : Record → ParameterSet → FrameResult
  clean_of u set = result_in (receive ord u (frame ord set sync)).answer

  module _ (r : Record) (ok : T (valid r)) where
    pub frame_claim : (set : ParameterSet) → T (sendable set) → FrameClaim ord set fl (result_of r set) width
    unfolding accepted repeated
    frame_claim (Unvoiced x) t = record {
      correctable = λ k.
          let e = correctable_accepted ord o r ok sync fl x t k.few in
          record {
            kind = ap (λ (y : Received). (result_in y.answer).kind) e;
            l1 = ap (λ (y : Received). (indices_in (result_in y.answer).set).l1) e;
            g2 = ap (λ (y : Received). (indices_in (result_in y.answer).set).g2) e;
            g1 = ap (λ (y : Received). (indices_in (result_in y.answer).set).g1) e;
            repaired = ap (λ (y : Received). (result_in y.answer).repaired) e;
          };
      double = λ _ a p. ap (λ (y : Received). (result_in y.answer).kind) (double_repeated ord o r ok sync fl x a p);
      voiced = λ e. absurd (unvoiced≢voiced e);
      burst = λ e w. record { unvoiced = e; few = spread fl w };
    }
    frame_claim (Voiced x v) t = record {
      correctable = λ k. absurd (unvoiced≢voiced (sym k.unvoiced));
      double = λ e. absurd (unvoiced≢voiced (sym e));
      voiced = λ _ p. voiced_kept ord o r ok sync fl x v t p;
      burst = λ e. absurd (unvoiced≢voiced (sym e));
    }

    -- beside a receiver that gets the frame as sent: the same G2 is accepted, and where the G2 before was the same the levels are
    module _ (u : Record) (clean : T (valid u)) where
      pub g2_same : (set : ParameterSet) → T (sendable set) → CorrectableFrame ord set fl
          → (receive ord r (arrived ord set sync fl)).next.g2 ≡ (receive ord u (frame ord set sync)).next.g2
      unfolding accepted
      g2_same (Unvoiced x) t k =
          ap (λ (y : Received). y.next.g2) (correctable_accepted ord o r ok sync fl x t k.few)
          ∙ sym (ap (λ (y : Received). y.next.g2) (packed_accepted ord o u clean sync (Unvoiced x) t))
      g2_same (Voiced x v) t k = absurd (unvoiced≢voiced (sym k.unvoiced))

      pub levels_same : (set : ParameterSet) → T (sendable set) → r.g2 ≡ u.g2 → CorrectableFrame ord set fl
          → SameLevels (result_of r set) (clean_of u set)
      unfolding accepted
      levels_same (Unvoiced x) t q k =
          let here = correctable_accepted ord o r ok sync fl x t k.few in
          let there = packed_accepted ord o u clean sync (Unvoiced x) t in
          record {
            first =
                ap (λ (y : Received). (result_in y.answer).first) here
                ∙ ap (first_level x.g2 x.g1) q
                ∙ sym (ap (λ (y : Received). (result_in y.answer).first) there);
            second = ap (λ (y : Received). (result_in y.answer).second) here ∙ sym (ap (λ (y : Received). (result_in y.answer).second) there);
          }
      levels_same (Voiced x v) t q k = absurd (unvoiced≢voiced (sym k.unvoiced))
