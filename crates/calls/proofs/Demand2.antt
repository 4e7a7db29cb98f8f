-- Demand 2, in any order and any valid record: from any 54 bits to what they are read as, and from the bytes that a packing call wrote
-- to the set that a receiving call gives.
-- Assumes nothing.
use mathlib.Core.Path.{◌≡◌, refl, sym, ap, ap₂, ◌∙◌, subst⁻¹}
use mathlib.Core.Bool.{Bool}
use mathlib.Core.List.{List}
use Prim.Native.Nat.{ℕ}
use native.Mathlib.Omega.{arith}
use lib.Dec.{T, lit<}
use Rattle.std.specs.Prelude.{None}
use Rattle.order.specs.Order.{Order, frame_of, logical_bit, frame_refusal}
use Rattle.order.proofs.Frames.{sent_bit}
use Rattle.order.proofs.Refusals.{packed_taken, taken_frame_back}
use Rattle.frame.specs.Layout.{logical_of, frame}
use Rattle.reading.specs.Reading.{read}
use Rattle.reading.proofs.Extent.{read_ext}
use Rattle.records.specs.Records.{valid}
use Rattle.receiver.specs.Steps.{accepted, step}
use Rattle.receiver.specs.Receiving.{receive}
use Rattle.records.specs.declared.Record.{Record}
use Rattle.receiver.specs.declared.Received.{Received}
use Rattle.receiver.proofs.Results.{result_in}
use Rattle.receiver.proofs.Refusals.{not_refused, receive_taken}
use Rattle.damage.proofs.Arrival.{packed_accepted}
use Rattle.calls.specs.Model.{pack_kind, receive_kind}
use Rattle.calls.specs.Calls.{PackCall, pack_order, pack_call_refusal, sent, PackStep}
use Rattle.calls.specs.Calls.{ReceiveCall, receive_order, frame_in, receive_call_refusal, ReceiveStep}
use Rattle.calls.specs.Return.{ReadsBits, Returns, DefinedReturn, CallsReturn}
use Rattle.calls.proofs.Steps.{pack_order_lem, pack_sendable, pack_sent, receive_result, receive_answer, receive_left}

module _ (ord : List ℕ) (o : Order ord) where
  -- the frame of any bits is not refused, and is read as they are
  bits_read : (r : Record) → T (valid r) → (g : ℕ → Bool) → receive ord r (frame_of ord g) ≡ step r (g 53) (read g)
  bits_read r v g =
      receive_taken ord r (frame_of ord g) (not_refused ord r (frame_of ord g) (packed_taken ord o g) v)
      ∙ ap₂ (step r) (sent_bit ord o g 53 (lit< tt)) (read_ext (logical_bit ord (frame_of ord g)) g (λ j h. sent_bit ord o g j (omega arith)))

  pub defined_return : DefinedReturn ord
  defined_return = record { reads = bits_read; covers = taken_frame_back ord }

-- a receiving call with a valid record that gets the frame of bits g in its order does what the receiver does with it
module _ (d : ReceiveCall receive_kind) (l : ReceiveStep d) (v : T (valid d.given)) (o : Order (receive_order d)) (g : ℕ → Bool)
    (f : frame_in d ≡ frame_of (receive_order d) g) where
  call_taken : receive_call_refusal d ≡ None
  call_taken = not_refused (receive_order d) d.given (frame_in d) (ap (frame_refusal (receive_order d)) f ∙ packed_taken (receive_order d) o g) v

  module _ (y : Received) (e : receive (receive_order d) d.given (frame_of (receive_order d) g) ≡ y) where
    call_answer : d.answer ≡ y.answer
    call_answer = receive_answer d l call_taken ∙ sym (receive_result d l call_taken) ∙ ap (λ (x : Received). x.answer) (ap (receive (receive_order d) d.given) f ∙ e)

    call_record : d.left ≡ y.next
    call_record = receive_left d l call_taken ∙ ap (λ (x : Received). x.next) (ap (receive (receive_order d) d.given) f ∙ e)

call_reads : (d : ReceiveCall receive_kind) → ReceiveStep d → T (valid d.given) → Order (receive_order d) → (g : ℕ → Bool)
    → frame_in d ≡ frame_of (receive_order d) g → ReadsBits g d
call_reads d l v o g f =
    let y : Received = step d.given (g 53) (read g) in
    let e = bits_read (receive_order d) o d.given v g in
    record { answer = call_answer d l v o g f y e; left = call_record d l v o g f y e }

packed_returns : (c : PackCall pack_kind) (d : ReceiveCall receive_kind) → PackStep c → ReceiveStep d → pack_call_refusal c ≡ None → T (valid d.given)
    → receive_order d ≡ pack_order c → frame_in d ≡ sent c → Returns c d
unfolding accepted
packed_returns c d k l e v p f =
    let set = c.arguments.set in
    let y : Received = accepted d.given c.given set 0 in
    let o : Order (receive_order d) = subst⁻¹ Order p (pack_order_lem c k e) in
    let same : frame_in d ≡ frame (receive_order d) set c.given = f ∙ pack_sent c k e ∙ ap (λ (x : List ℕ). frame x set c.given) (sym p) in
    let there = packed_accepted (receive_order d) o d.given v c.given set (pack_sendable c k e) in
    let left = call_record d l v o (logical_of set c.given) same y there in
    record {
      result = result_in y.answer;
      answered = call_answer d l v o (logical_of set c.given) same y there;
      kind = refl;
      set = refl;
      sync = refl;
      repaired = refl;
      last = ap (λ (x : Record). x.last) left;
      g2 = ap (λ (x : Record). x.g2) left;
    }

-- calls whose contracts imply the model's step
pub calls_return : (Packs : PackCall pack_kind → Type 0) → ((c : PackCall pack_kind) → Packs c → PackStep c) → (Receives : ReceiveCall receive_kind → Type 0)
    → ((d : ReceiveCall receive_kind) → Receives d → ReceiveStep d) → CallsReturn Packs Receives
calls_return Packs packs Receives receives = record {
  packs = packs;
  reads = λ d l. call_reads d (receives d l);
  returns = λ c d k l. packed_returns c d (packs c k) (receives d l);
}
