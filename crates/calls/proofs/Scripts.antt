-- Receiving calls by a script: from any valid record there are calls that take given frames one after the other, with refused ones among
-- them, wherever a call of each way can be had.
-- Assumes nothing.
use mathlib.Core.Path.{◌≡◌, refl, ap, ◌∙◌, subst⁻¹}
use mathlib.Core.List.{List, [], ◌∷◌, map}
use Prim.Native.Nat.{ℕ}
use native.Mathlib.Omega.{arith}
use lib.Dec.{T}
use lib.ListN.{length}
use Rattle.std.specs.Prelude.{Option, None}
use Rattle.refusal.specs.declared.Refusal.{Refusal}
use Rattle.bits.specs.Lists.{Every}
use Rattle.order.specs.Order.{frame_refusal}
use Rattle.records.specs.Records.{valid}
use Rattle.records.specs.declared.Record.{Record}
use Rattle.receiver.specs.Receiving.{receive_refusal, receive}
use Rattle.receiver.proofs.Refusals.{not_refused, not_refused_only}
use Rattle.receiver.proofs.Validity.{receive_valid}
use Rattle.calls.specs.Model.{ReceiveArguments, receive_kind}
use Rattle.calls.specs.Calls.{ReceiveCall, receive_order, frame_in, receive_call_refusal, ReceiveRun, keep_unless, unrefused}
use Rattle.calls.specs.Script.{Wish, next, other, nexts, OtherRefused, Granted}
use Rattle.calls.specs.CodeCalls.{receive_call}
use Rattle.calls.proofs.Runs.{refused_left_out}

-- the call that an order and a frame lead to, from a record
abbrev pub receive_one : Record → ReceiveArguments → ReceiveCall receive_kind
receive_one r x = receive_call x.order r x.frame (receive x.order r x.frame).answer (receive x.order r x.frame).next

module _ {Way : Type 0} (Receives : Way → ReceiveCall receive_kind → Type 0)
    (receive_had : (way : Way) (r : Record) (x : ReceiveArguments) → Receives way (receive_one r x)) (ord : List ℕ) where
  -- calls by a script from a record, which take these frames in the order
  pub record Served (r : Record) (script : List (Wish Way)) (bs : List (List ℕ)) : Type 0 where
    pub receives : List (ReceiveCall receive_kind)
    pub granted : Granted Receives script receives
    pub run : ReceiveRun (λ c. (way : Way) × Receives way c) r receives
    pub same : Every (λ c. receive_order c ≡ ord) (unrefused receive_call_refusal receives)
    pub delivered : map frame_in (unrefused receive_call_refusal receives) ≡ bs

  module _ (r : Record) (v : T (valid r)) (way : Way) (script : List (Wish Way)) (bs : List (List ℕ)) where
    -- one more call that takes a frame
    next_served : (b : List ℕ) → Served (receive ord r b).next script bs → frame_refusal ord b ≡ None → Served r (next way ∷ script) (b ∷ bs)
    next_served b rest e =
        let x : ReceiveArguments = record { order = ord; frame = b } in
        let taken = not_refused ord r b e v in
        let kept : unrefused receive_call_refusal (receive_one r x ∷ rest.receives) ≡ receive_one r x ∷ unrefused receive_call_refusal rest.receives =
        ap (λ (n : Option Refusal). keep_unless n (receive_one r x) (unrefused receive_call_refusal rest.receives)) taken in
        record {
          receives = receive_one r x ∷ rest.receives;
          granted = (receive_had way r x, taken, rest.granted);
          run = (refl, (way, receive_had way r x), rest.run);
          same = subst⁻¹ (Every (λ c. receive_order c ≡ ord)) kept (refl, rest.same);
          delivered = ap (map frame_in) kept ∙ ap (λ (l : List (List ℕ)). b ∷ l) rest.delivered;
        }

    -- and one that is refused
    other_served : (x : ReceiveArguments) → Served (receive x.order r x.frame).next script bs → ¬ (frame_refusal x.order x.frame ≡ None)
        → Served r (other way x ∷ script) bs
    other_served x rest e =
        let left : unrefused receive_call_refusal (receive_one r x ∷ rest.receives) ≡ unrefused receive_call_refusal rest.receives =
        refused_left_out (receive_refusal x.order r x.frame) (receive_one r x) (unrefused receive_call_refusal rest.receives)
        (λ z. e (not_refused_only x.order r x.frame z).0) in
        record {
          receives = receive_one r x ∷ rest.receives;
          granted = (receive_had way r x, refl, rest.granted);
          run = (refl, (way, receive_had way r x), rest.run);
          same = subst⁻¹ (Every (λ c. receive_order c ≡ ord)) left rest.same;
          delivered = ap (map frame_in) left ∙ rest.delivered;
        }

  pub script_served : (r : Record) (script : List (Wish Way)) (bs : List (List ℕ)) → T (valid r) → nexts script ≡ length bs → Every OtherRefused script
      → Every (λ b. frame_refusal ord b ≡ None) bs → Served r script bs
  script_served r [] [] v n q h = record { receives = []; granted = tt; run = tt; same = tt; delivered = refl }
  script_served r [] (b ∷ bs) v n q h = absurd (omega arith)
  script_served r (next way ∷ script) [] v n q h = absurd (omega arith)
  script_served r (next way ∷ script) (b ∷ bs) v n q h =
      let m : nexts script ≡ length bs = omega arith in
      next_served r v way script bs b (script_served (receive ord r b).next script bs (receive_valid ord r b v) m q.1 h.1) h.0
  script_served r (other way x ∷ script) bs v n q h =
      other_served r v way script bs x
      (script_served (receive x.order r x.frame).next script bs (receive_valid x.order r x.frame v) n q.1 h) q.0
