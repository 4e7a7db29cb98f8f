-- The frames of two lists of calls, none of them refused: a row for each packing call with the receiving call that got its frame.
-- Assumes nothing.
use mathlib.Core.Path.{◌≡◌, refl, ap, ◌∙◌, subst}
use mathlib.Core.Bool.{Bool}
use mathlib.Core.List.{List, [], ◌∷◌, map, nil≢cons, cons≢nil, head-eq_of_cons-eq, tail-eq_of_cons-eq}
use Prim.Native.Nat.{ℕ, suc}
use lib.Dec.{T}
use Rattle.std.specs.Prelude.{None, Ok}
use Rattle.order.specs.Order.{Order, through}
use Rattle.sets.specs.Sets.{sendable}
use Rattle.frame.specs.Layout.{frame}
use Rattle.damage.proofs.AnyOrder.{arrived}
use Rattle.records.specs.Records.{valid}
use Rattle.receiver.specs.Receiving.{receive}
use Rattle.records.specs.declared.Record.{Record}
use Rattle.receiver.specs.declared.Received.{Received}
use Rattle.receiver.proofs.Results.{result_in}
use Rattle.receiver.proofs.Refusals.{not_refused_only}
use Rattle.calls.specs.Model.{PackKind, ReceiveKind}
use Rattle.calls.specs.Calls.{PackCall, pack_order, set_in, pack_call_refusal, pack_left, sent, PackStep, PackRun}
use Rattle.calls.specs.Calls.{ReceiveCall, receive_order, frame_in, receive_call_refusal, ReceiveStep, ReceiveRun, channel}
use Rattle.calls.specs.Frames.{Row, set_of}
use Rattle.calls.proofs.Steps.{pack_order_lem, pack_sendable, pack_sent, receive_answer, receive_left}

-- a call that keeps to the model, is not refused and is lent the order
abbrev pub PacksFrame : List ℕ → {P : PackKind} → PackCall P → Type 0
PacksFrame ord c = (PackStep c × (pack_call_refusal c ≡ None)) × (pack_order c ≡ ord)

abbrev pub TakesFrame : List ℕ → {R : ReceiveKind} → ReceiveCall R → Type 0
TakesFrame ord c = (ReceiveStep c × (receive_call_refusal c ≡ None)) × (receive_order c ≡ ord)

-- the frame that such a call packs
pub packs_frame : (ord : List ℕ) {P : PackKind} (c : PackCall P) → PacksFrame ord c → sent c ≡ frame ord (set_in c) c.given
packs_frame ord c k = pack_sent c k.0.0 k.0.1 ∙ ap (λ (o : List ℕ). frame o (set_in c) c.given) k.1

-- and that the order is one
pub packs_order : (ord : List ℕ) {P : PackKind} (c : PackCall P) → PacksFrame ord c → Order ord
packs_order ord c k = subst Order k.1 (pack_order_lem c k.0.0 k.0.1)

module _ (ord : List ℕ) {P : PackKind} {R : ReceiveKind} where
  -- the frame that a row's receiver gets
  abbrev pub got : Row P R → List ℕ
  got w = arrived ord (set_of w) w.packing.given w.flips

  -- what is known of a row whose receiver has the record r, and the clean receiver u
  pub record Known (r u : Record) (w : Row P R) : Type 0 where
    pub is_order_lem : Order ord
    pub may_send : T (sendable (set_of w))
    pub is_sent : sent w.packing ≡ frame ord (set_of w) w.packing.given
    pub is_valid : T (valid r)
    pub answers : w.receiving.answer ≡ Ok (result_in (receive ord r (got w)).answer)
    pub leaves : w.receiving.left ≡ (receive ord r (got w)).next
    pub result_is : w.result ≡ result_in (receive ord r (got w)).answer
    pub clean_is : w.clean ≡ result_in (receive ord u (frame ord (set_of w) w.packing.given)).answer

  -- rows in which both receivers go on from row to row, and the channel from frame to frame
  abbrev pub Chain : Record → Record → (ℕ → ℕ → Bool) → List (Row P R) → Type 0
  Chain r u flips [] = Unit
  Chain r u flips (w ∷ ws) =
      Known r u w × (w.flips ≡ flips 0)
      × Chain (receive ord r (got w)).next (receive ord u (frame ord (set_of w) w.packing.given)).next (λ k. flips (suc k)) ws

  -- the row of a packing call and the receiving call that got its frame
  abbrev row_of : Record → Record → (ℕ → Bool) → PackCall P → ReceiveCall R → Row P R
  row_of r u fl p q = record {
    packing = p;
    flips = fl;
    receiving = q;
    result = result_in (receive ord r (arrived ord (set_in p) p.given fl)).answer;
    clean = result_in (receive ord u (frame ord (set_in p) p.given)).answer;
  }

  row_known : (r u : Record) (fl : ℕ → Bool) (p : PackCall P) (q : ReceiveCall R) → PacksFrame ord p → TakesFrame ord q → q.given ≡ r → frame_in q ≡ through fl (sent p)
      → Known r u (row_of r u fl p q)
  row_known r u fl p q k l g e =
      let same : frame_in q ≡ arrived ord (set_in p) p.given fl = e ∙ ap (through fl) (packs_frame ord p k) in
      let there : receive (receive_order q) q.given (frame_in q) ≡ receive ord r (arrived ord (set_in p) p.given fl) = λ i. receive (l.1 i) (g i) (same i) in
      record {
        is_order_lem = packs_order ord p k;
        may_send = pack_sendable p k.0.0 k.0.1;
        is_sent = packs_frame ord p k;
        is_valid =
            subst (λ (y : Record). T (valid y)) g
            (not_refused_only (receive_order q) q.given (frame_in q) (R.covers q.given q.arguments l.0.1)).1;
        answers = receive_answer q l.0.0 l.0.1 ∙ ap (λ (y : Received). Ok (result_in y.answer)) there;
        leaves = receive_left q l.0.0 l.0.1 ∙ ap (λ (y : Received). y.next) there;
        result_is = refl;
        clean_is = refl;
      }

  -- the rows of two lists of calls
  pub record Aligned (r u : Record) (flips : ℕ → ℕ → Bool) (ps : List (PackCall P)) (qs : List (ReceiveCall R)) : Type 0 where
    pub rows : List (Row P R)
    pub packings : map (λ w. w.packing) rows ≡ ps
    pub receivings : map (λ w. w.receiving) rows ≡ qs
    pub chain : Chain r u flips rows

  -- where the receiving calls get exactly what the channel hands on, there are such rows
  pub calls_aligned : (s : Bool) (r u : Record) (flips : ℕ → ℕ → Bool) (ps : List (PackCall P)) (qs : List (ReceiveCall R))
      → PackRun (PacksFrame ord) s ps → ReceiveRun (TakesFrame ord) r qs → map frame_in qs ≡ channel flips (map sent ps) → Aligned r u flips ps qs
  calls_aligned s r u flips [] [] h j e = record { rows = []; packings = refl; receivings = refl; chain = tt }
  calls_aligned s r u flips [] (q ∷ qs) h j e = absurd (cons≢nil e)
  calls_aligned s r u flips (p ∷ ps) [] h j e = absurd (nil≢cons e)
  calls_aligned s r u flips (p ∷ ps) (q ∷ qs) h j e =
      let here : Known r u (row_of r u (flips 0) p q) = row_known r u (flips 0) p q h.1 j.1 j.0 (head-eq_of_cons-eq e) in
      let goes_on = subst (λ (y : Record). ReceiveRun (TakesFrame ord) y qs) here.leaves j.2 in
      let rest = calls_aligned (pack_left p) _ (receive ord u (frame ord (set_in p) p.given)).next (λ k. flips (suc k)) ps qs h.2 goes_on (tail-eq_of_cons-eq e) in
      record {
        rows = row_of r u (flips 0) p q ∷ rest.rows;
        packings = ap (λ (l : List (PackCall P)). p ∷ l) rest.packings;
        receivings = ap (λ (l : List (ReceiveCall R)). q ∷ l) rest.receivings;
        chain = (here, refl, rest.chain);
      }
