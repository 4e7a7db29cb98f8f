-- Rows that follow one another: what they say of the channel, of the answers and of the clean receiver.
-- Assumes nothing.
use mathlib.Core.Path.{◌≡◌, refl, sym, ap, ap₂, ◌∙◌, subst⁻¹}
use mathlib.Core.Bool.{Bool}
use mathlib.Core.List.{List, [], ◌∷◌, map}
use Prim.Native.Nat.{ℕ, suc}
use lib.Dec.{T}
use lib.ListN.{length}
use Rattle.std.specs.Prelude.{Result, Ok}
use Rattle.bits.specs.Bits.{cut}
use Rattle.bits.proofs.Cut.{cut_suc}
use Rattle.frame.specs.Layout.{frame}
use Rattle.sets.proofs.Ranges.{sendable_fits}
use Rattle.records.specs.Records.{valid}
use Rattle.receiver.specs.Steps.{accepted}
use Rattle.receiver.specs.Receiving.{receive}
use Rattle.receiver.specs.declared.FrameResult.{FrameResult}
use Rattle.records.specs.declared.Record.{Record}
use Rattle.receiver.specs.declared.Received.{Received}
use Rattle.receiver.proofs.Results.{result_in, accepted_valid}
use Rattle.damage.proofs.Arrival.{packed_accepted}
use Rattle.calls.specs.Model.{done, Outcome, outcomes, PackKind, ReceiveKind, outcome_of, receive_model, receive_kind}
use Rattle.calls.specs.Calls.{sent}
use Rattle.calls.specs.Frames.{Row, set_of}
use Rattle.calls.proofs.Steps.{model_is}
use Rattle.calls.proofs.Rows.{Known, Chain, got}

module _ (ord : List ℕ) {P : PackKind} {R : ReceiveKind} where
  -- each row has the channel's flips of its frame
  pub chain_flips : (r u : Record) (flips : ℕ → ℕ → Bool) (ws : List (Row P R)) → Chain ord r u flips ws → map (λ w. w.flips) ws ≡ cut flips 0 (length ws)
  chain_flips r u flips [] h = refl
  chain_flips r u flips (w ∷ ws) h =
      ap₂ (λ (f : ℕ → Bool) (l : List (ℕ → Bool)). f ∷ l) h.1
      (chain_flips (receive ord r (got ord w)).next _ (λ k. flips (suc k)) ws h.2 ∙ sym (cut_suc flips 0 (length ws)))

  -- its receiving call answered with its result
  pub chain_answers : (r u : Record) (flips : ℕ → ℕ → Bool) (ws : List (Row P R)) → Chain ord r u flips ws
      → map (λ w. w.receiving.answer) ws ≡ map (λ w. Ok w.result) ws
  chain_answers r u flips [] h = refl
  chain_answers r u flips (w ∷ ws) h =
      ap₂ (λ (a : Result FrameResult R.Refused) (l : List (Result FrameResult R.Refused)). a ∷ l) (h.0.answers ∙ ap Ok (sym h.0.result_is))
      (chain_answers (receive ord r (got ord w)).next _ _ ws h.2)

  -- what the clean receiver makes of the frame as sent
  clean_takes : (r u : Record) (w : Row P R) → Known ord r u w → T (valid u)
      → receive ord u (frame ord (set_of w) w.packing.given) ≡ accepted u w.packing.given (set_of w) 0
  clean_takes r u w k v = packed_accepted ord k.is_order_lem u v w.packing.given (set_of w) k.may_send

  -- and keeps a valid record
  pub clean_valid : (r u : Record) (w : Row P R) → Known ord r u w → T (valid u) → T (valid (receive ord u (frame ord (set_of w) w.packing.given)).next)
  clean_valid r u w k v =
      subst⁻¹ (λ (y : Received). T (valid y.next)) (clean_takes r u w k v)
      (accepted_valid u w.packing.given (set_of w) 0 (sendable_fits (set_of w) k.may_send))

  -- the clean results are what the model gives for the frames as packed
  pub chain_clean : (r u : Record) (flips : ℕ → ℕ → Bool) (ws : List (Row P R)) → Chain ord r u flips ws → T (valid u)
      → map (λ y. y.answer) (outcomes (receive_model receive_kind) u (map (λ w. record { order = ord; frame = sent w.packing }) ws)) ≡ map (λ w. done w.clean) ws
  unfolding accepted
  chain_clean r u flips [] h v = refl
  chain_clean r u flips (w ∷ ws) h v =
      let k = h.0 in
      let e = clean_takes r u w k v in
      let moved = model_is u (record { order = ord; frame = sent w.packing }) ∙ ap (λ (b : List ℕ). outcome_of (receive ord u b)) k.is_sent in
      let here : (receive_model receive_kind u (record { order = ord; frame = sent w.packing })).answer ≡ done w.clean =
      ap (λ (y : Outcome FrameResult Record). y.answer) (moved ∙ ap outcome_of e)
      ∙ sym (ap done (k.clean_is ∙ ap (λ (y : Received). result_in y.answer) e)) in
      let state = ap (λ (y : Outcome FrameResult Record). y.state) moved in
      let rest =
      subst⁻¹ (λ (t : Record). map (λ y. y.answer) (outcomes (receive_model receive_kind) t (map (λ x. record { order = ord; frame = sent x.packing }) ws)) ≡ map (λ x. done x.clean) ws)
      state (chain_clean (receive ord r (got ord w)).next _ _ ws h.2 (clean_valid r u w k v)) in
      λ i. here i ∷ rest i
