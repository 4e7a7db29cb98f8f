-- What a single call gives that does what the model does: refused, it leaves its state; not refused, a packing call gives the frame
-- of a set that may be sent in the order that it was lent, and a receiving call the receiver's answer and record.
-- Assumes nothing.
use mathlib.Core.Path.{◌≡◌, refl, sym, ap, ◌∙◌, subst, subst⁻¹}
use mathlib.Core.Bool.{Bool, true, false, not}
use mathlib.Core.List.{List, [], ◌∷◌}
use Prim.Native.Nat.{ℕ}
use native.Mathlib.Omega.{arith}
use lib.Dec.{T, ltb}
use lib.ListN.{length}
use Rattle.std.specs.Prelude.{Option, None, Some, Result, Ok, Err}
use Rattle.refusal.specs.Refusals.{number_of, first_refusal}
use Rattle.refusal.specs.declared.Refusal.{Refusal}
use Rattle.refusal.specs.declared.Refusal.TheVariants.{ShortOutput, OutOfRange, InvalidOrder}
use Rattle.bits.proofs.Tests.{T_true}
use Rattle.order.specs.Order.{Order, is_order}
use Rattle.order.proofs.Orders.{is_order_only}
use Rattle.sets.specs.Sets.{sendable}
use Rattle.frame.specs.Layout.{frame}
use Rattle.frame.specs.Packing.{pack_refusal}
use Rattle.sets.specs.declared.ParameterSet.{ParameterSet}
use Rattle.receiver.specs.Receiving.{receive_refusal, receive_unless, receive}
use Rattle.receiver.specs.declared.FrameResult.{FrameResult}
use Rattle.receiver.specs.declared.Received.{Received}
use Rattle.receiver.proofs.Results.{result_in, step_answers}
use Rattle.receiver.proofs.Refusals.{receive_taken}
use Rattle.records.specs.declared.Record.{Record}
use Rattle.calls.specs.Model.{Answer, done, refused, Outcome, PackKind, pack_unless}
use Rattle.calls.specs.Model.{ReceiveKind, answer_by, answer_of, outcome_of, outcome_unless, receive_model, ReceiveArguments, receive_kind}
use Rattle.calls.specs.Calls.{PackCall, pack_order, set_in, pack_call_refusal, pack_left, sent, pack_answer_of, pack_outcome, PackStep}
use Rattle.calls.specs.Calls.{ReceiveCall, receive_order, frame_in, receive_call_refusal, receive_outcome, ReceiveStep}

-- what packing does not refuse is lent an order and a set that may be sent
pub packed_only : (ord : List ℕ) (set : ParameterSet) (room : ℕ) → pack_refusal ord set room ≡ None → Order ord × T (sendable set)
packed_only ord set room e = go (ltb room 7) (is_order ord) (sendable set) refl refl e
  where
    go : (a b c : Bool) → is_order ord ≡ b → sendable set ≡ c → first_refusal ((a, ShortOutput) ∷ (not b, InvalidOrder) ∷ (not c, OutOfRange) ∷ []) ≡ None → Order ord × T (sendable set)
    go true b c f g z = absurd (cc z)
    go false true true f g z = (is_order_only ord (T_true (is_order ord) f), subst T (sym g) tt)
    go false true false f g z = absurd (cc z)
    go false false c f g z = absurd (cc z)

-- the value in an answer, and a given one where there is none
value_or : {A : Type 0} → A → Answer A → A
value_or d (done x) = x
value_or d (refused n) = d

bytes_back : {F : Type 0} (number : F → ℕ) (a : Result Bool F) (bytes : List ℕ) → value_or bytes (pack_answer_of number a bytes) ≡ bytes
unfolding value_or
bytes_back number (Ok next) bytes = refl
bytes_back number (Err f) bytes = refl

-- a call that the model gives a result of has this result
answer_back : {F : Type 0} (number : F → ℕ) (a : Result FrameResult F) (x : FrameResult) → answer_by number a ≡ done x → a ≡ Ok x
answer_back number (Ok y) x e = grind arith
answer_back number (Err f) x e = grind arith

-- where the table's refusals have the table's numbers, the outcome is what the receiver gives
pub outcome_is : (n : Option Refusal) (ord : List ℕ) (r : Record) (bytes : List ℕ) → outcome_unless number_of n ord r bytes ≡ outcome_of (receive_unless n ord r bytes)
outcome_is None ord r bytes = refl
outcome_is (Some f) ord r bytes = refl

-- so the model of document 01's own calls gives what the receiver gives
pub model_is : (r : Record) (x : ReceiveArguments) → receive_model receive_kind r x ≡ outcome_of (receive x.order r x.frame)
unfolding receive
model_is r x = outcome_is (receive_refusal x.order r x.frame) x.order r x.frame

module _ {P : PackKind} (c : PackCall P) (k : PackStep c) where
  -- a packing call by what refuses it
  pack_outcome_is : (n : Option P.Refused) → pack_call_refusal c ≡ n → pack_outcome c ≡ pack_unless P.number n (pack_order c) c.given (set_in c)
  pack_outcome_is n e =
      let by_kind : pack_outcome c ≡ pack_unless P.number (pack_call_refusal c) (pack_order c) c.given (set_in c) = k.outcome in
      by_kind ∙ ap (λ (m : Option P.Refused). pack_unless P.number m (pack_order c) c.given (set_in c)) e

  -- a refused one leaves the sync bit
  pub pack_leaves : (f : P.Refused) → pack_call_refusal c ≡ Some f → pack_left c ≡ c.given
  pack_leaves f e = ap (λ (y : Outcome (List ℕ) Bool). y.state) (pack_outcome_is (Some f) e)

  module _ (e : pack_call_refusal c ≡ None) where
    -- one that is not refused has an order and a set that may be sent
    pack_only : Order (pack_order c) × T (sendable (set_in c))
    pack_only = packed_only (pack_order c) (set_in c) (length (P.lent c.arguments)) (P.covers c.given c.arguments e)

    pub pack_order_lem : Order (pack_order c)
    pack_order_lem = pack_only.0

    pub pack_sendable : T (sendable (set_in c))
    pack_sendable = pack_only.1

    -- and its seven bytes are the frame of the set with the sync bit it was given
    pub pack_sent : sent c ≡ frame (pack_order c) (set_in c) c.given
    unfolding value_or
    pack_sent = sym (bytes_back P.number c.answer (sent c)) ∙ ap (λ (y : Outcome (List ℕ) Bool). value_or (sent c) y.answer) (pack_outcome_is None e)

module _ {R : ReceiveKind} (c : ReceiveCall R) (k : ReceiveStep c) where
  -- a receiving call by what refuses it
  receive_outcome_is : (n : Option R.Refused) → receive_call_refusal c ≡ n → receive_outcome c ≡ outcome_unless R.number n (receive_order c) c.given (frame_in c)
  receive_outcome_is n e =
      let by_kind : receive_outcome c ≡ outcome_unless R.number (receive_call_refusal c) (receive_order c) c.given (frame_in c) = k in
      by_kind ∙ ap (λ (m : Option R.Refused). outcome_unless R.number m (receive_order c) c.given (frame_in c)) e

  -- a refused one leaves the record
  pub receive_leaves : (f : R.Refused) → receive_call_refusal c ≡ Some f → c.left ≡ c.given
  receive_leaves f e = ap (λ (y : Outcome FrameResult Record). y.state) (receive_outcome_is (Some f) e)

  module _ (e : receive_call_refusal c ≡ None) where
    -- one that is not refused gives what the receiver gives
    receives : receive_outcome c ≡ outcome_of (receive (receive_order c) c.given (frame_in c))
    unfolding receive
    receives =
        receive_outcome_is None e ∙ sym (ap (λ (m : Option Refusal). outcome_of (receive_unless m (receive_order c) c.given (frame_in c))) (R.covers c.given c.arguments e))

    -- the receiver answers with a result
    pub receive_result :
        (receive (receive_order c) c.given (frame_in c)).answer ≡ Ok (result_in (receive (receive_order c) c.given (frame_in c)).answer)
    receive_result =
        let taken = receive_taken (receive_order c) c.given (frame_in c) (R.covers c.given c.arguments e) in
        subst⁻¹ (λ (y : Received). y.answer ≡ Ok (result_in y.answer)) taken (step_answers c.given _ _)

    -- which is its answer
    pub receive_answer : c.answer ≡ Ok (result_in (receive (receive_order c) c.given (frame_in c)).answer)
    receive_answer =
        answer_back R.number c.answer (result_in (receive (receive_order c) c.given (frame_in c)).answer)
        (ap (λ (y : Outcome FrameResult Record). y.answer) receives ∙ ap answer_of receive_result)

    -- and its record
    pub receive_left : c.left ≡ (receive (receive_order c) c.given (frame_in c)).next
    receive_left = ap (λ (y : Outcome FrameResult Record). y.state) receives
