-- Demand 3: one claim about two whole lists of calls.
--
-- Given: a list of packing calls on one sender from the fresh sync bit, a channel that changes any of each frame's places 0 to 53,
-- and a list of receiving calls on one receiver from any record, of which those not refused get exactly the frames packed, as the
-- channel hands them on, each once and in order. Each call is lent an order of its own; those not refused, in both lists, have the same one, refused
-- ones any list whatever (document 02, T-07). Refused calls stand anywhere in both lists. Nothing is asked of the record: one
-- that is not valid has every call refused, so no frame is received by it; nor of the order, since a list that is none has every call refused. What refuses
-- a call is its kind's to say. The receiving calls are those without confidences; of those with confidences `SoftCalls` speaks (document 02, T-05).
--
-- Claimed: all that is observed of every call is what the reference model gives, which is fed arguments alone; and of every frame
-- packed, whatever its flips and whatever went before it, what `RowClaim` and `PairClaim` say, in that order and for bursts of its width.
use Rattle.std.specs.Prelude.{ℕ, ◌≡◌, Bool, List, map, length, Ok}
use Rattle.bits.specs.Bits.{cut}
use Rattle.bits.specs.Lists.{Every, Successive}
use Rattle.frame.specs.Packing.{fresh_sync}
use Rattle.bursts.specs.Width.{burst_width}
use Rattle.records.specs.Records.{fresh}
use Rattle.records.specs.declared.Record.{Record}
use Rattle.calls.specs.Model.{done, outcomes, PackKind, pack_model, ReceiveKind, receive_model, receive_kind}
use Rattle.calls.specs.Calls.{PackCall, pack_order, pack_call_refusal, sent, pack_outcome, lent_after}
use Rattle.calls.specs.Calls.{ReceiveCall, receive_order, frame_in, receive_call_refusal, receive_outcome}
use Rattle.calls.specs.Calls.{PackRun, ReceiveRun, unrefused, channel}
use Rattle.calls.specs.Frames.{Row, RowClaim, PairClaim}

module _ {P : PackKind} {R : ReceiveKind} where
  -- what is given: calls that keep their contracts, in two lists, those not refused in the same order, and the channel between
  pub record Session (Packs : PackCall P → Type 0) (Receives : ReceiveCall R → Type 0) (ord : List ℕ) (ps : List (PackCall P)) (flips : ℕ → ℕ → Bool)
      (rs : List (ReceiveCall R)) (start : Record) : Type 0 where
    pub packing : PackRun Packs fresh_sync ps
    pub receiving : ReceiveRun Receives start rs
    pub packed_same : Every (λ c. pack_order c ≡ ord) (unrefused pack_call_refusal ps)
    pub received_same : Every (λ c. receive_order c ≡ ord) (unrefused receive_call_refusal rs)
    pub delivered : map frame_in (unrefused receive_call_refusal rs) ≡ channel flips (map sent (unrefused pack_call_refusal ps))

  -- what is claimed
  pub record Claim (ord : List ℕ) (ps : List (PackCall P)) (flips : ℕ → ℕ → Bool) (rs : List (ReceiveCall R)) (start : Record) : Type 0 where
    -- every packing call: the seven bytes or the number, and the sync bit after it; the rest of the lent output
    pub packed : map pack_outcome ps ≡ outcomes (pack_model P) fresh_sync (map (λ c. c.arguments) ps)
    pub lent : Every (λ c. c.output ≡ lent_after (pack_outcome c).answer (P.lent c.arguments)) ps
    -- every receiving call: every part of the result or the number, and the record after it
    pub received : map receive_outcome rs ≡ outcomes (receive_model R) start (map (λ c. c.arguments) rs)
    -- the frames: a row for each packing call and each receiving call not refused, in order, with the channel's flips,
    -- the result that was answered, and that of a receiver which starts fresh and gets every frame as packed, in the same order
    pub rows : List (Row P R)
    pub packings : map (λ w. w.packing) rows ≡ unrefused pack_call_refusal ps
    pub receivings : map (λ w. w.receiving) rows ≡ unrefused receive_call_refusal rs
    pub flipped : map (λ w. w.flips) rows ≡ cut flips 0 (length rows)
    pub answered : map (λ w. w.receiving.answer) rows ≡ map (λ w. Ok w.result) rows
    pub clean : map (λ o. o.answer) (outcomes (receive_model receive_kind) fresh (map (λ w. record { order = ord; frame = sent w.packing }) rows)) ≡ map (λ w. done w.clean) rows
    -- what is claimed of each frame, and of each with the one before it
    pub frames : Every (RowClaim ord (burst_width ord)) rows
    pub pairs : Successive (PairClaim ord) rows
