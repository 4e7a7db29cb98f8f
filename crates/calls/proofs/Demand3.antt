-- Demand 3, proved: two whole lists of calls, of any kind and with any contracts that imply the model's step, in any order of the bits.
-- Assumes nothing.
use mathlib.Core.Path.{◌≡◌, refl}
use mathlib.Core.Bool.{Bool}
use mathlib.Core.List.{List}
use Prim.Native.Nat.{ℕ}
use Rattle.std.specs.Prelude.{None}
use Rattle.frame.specs.Packing.{fresh_sync}
use Rattle.records.specs.Records.{fresh}
use Rattle.records.specs.declared.Record.{Record}
use Rattle.records.proofs.Validity.{fresh_valid}
use Rattle.calls.specs.Model.{PackKind, pack_model, ReceiveKind, receive_model}
use Rattle.calls.specs.Calls.{PackCall, pack_order, pack_call_refusal, pack_left, pack_outcome, lent_after, PackStep}
use Rattle.calls.specs.Calls.{ReceiveCall, receive_order, receive_call_refusal, receive_outcome, ReceiveStep, unrefused}
use Rattle.calls.specs.Claim.{Session, Claim}
use Rattle.calls.proofs.Runs.{run_outcomes, run_weaker, run_every, run_with, run_unrefused}
use Rattle.calls.proofs.Steps.{pack_leaves, receive_leaves}
use Rattle.calls.proofs.Rows.{Aligned, calls_aligned}
use Rattle.calls.proofs.Chains.{chain_flips, chain_answers, chain_clean}
use Rattle.calls.proofs.Claims.{chain_frames, chain_pairs}

module _ (ord : List ℕ) {P : PackKind} {R : ReceiveKind} (ps : List (PackCall P)) (flips : ℕ → ℕ → Bool) (rs : List (ReceiveCall R)) (start : Record)
    (s : Session PackStep ReceiveStep ord ps flips rs start) where
  -- the calls that are not refused, in rows
  frames : Aligned ord start fresh flips (unrefused pack_call_refusal ps) (unrefused receive_call_refusal rs)
  frames =
      let packs = run_unrefused (λ c. c.given) pack_left PackStep pack_call_refusal (λ c f k. pack_leaves c k f) fresh_sync ps s.packing in
      let takes = run_unrefused (λ c. c.given) (λ c. c.left) ReceiveStep receive_call_refusal (λ c f k. receive_leaves c k f) start rs s.receiving in
      calls_aligned ord fresh_sync start fresh flips (unrefused pack_call_refusal ps) (unrefused receive_call_refusal rs)
      (run_with (λ c. c.given) pack_left (λ c. PackStep c × (pack_call_refusal c ≡ None)) (λ c. pack_order c ≡ ord) fresh_sync (unrefused pack_call_refusal ps) packs
      s.packed_same)
      (run_with (λ c. c.given) (λ c. c.left) (λ c. ReceiveStep c × (receive_call_refusal c ≡ None)) (λ c. receive_order c ≡ ord) start
      (unrefused receive_call_refusal rs) takes s.received_same)
      s.delivered

  -- calls that do what the model does
  pub steps_claim : Claim ord ps flips rs start
  steps_claim =
      let f = frames in
      record {
        packed =
            run_outcomes (λ c. c.given) pack_left PackStep (λ c. c.arguments) (pack_outcome {P = P}) (pack_model P) (λ c k. k.outcome) (λ c. refl)
            fresh_sync ps s.packing;
        lent =
            run_every (λ c. c.given) pack_left PackStep (λ c. c.output ≡ lent_after (pack_outcome c).answer (P.lent c.arguments)) (λ c k. k.output)
            fresh_sync ps s.packing;
        received =
            run_outcomes (λ c. c.given) (λ c. c.left) ReceiveStep (λ c. c.arguments) (receive_outcome {R = R}) (receive_model R) (λ c k. k) (λ c. refl)
            start rs s.receiving;
        rows = f.rows;
        packings = f.packings;
        receivings = f.receivings;
        flipped = chain_flips ord start fresh flips f.rows f.chain;
        answered = chain_answers ord start fresh flips f.rows f.chain;
        clean = chain_clean ord start fresh flips f.rows f.chain fresh_valid;
        frames = chain_frames ord start fresh flips f.rows f.chain;
        pairs = chain_pairs ord start fresh flips f.rows f.chain fresh_valid;
      }

-- calls of any kind whose contracts imply the model's step
module _ {P : PackKind} (Packs : PackCall P → Type 0) (packs : (c : PackCall P) → Packs c → PackStep c)
    {R : ReceiveKind} (Receives : ReceiveCall R → Type 0) (receives : (c : ReceiveCall R) → Receives c → ReceiveStep c) where
  pub claim : (ord : List ℕ) (ps : List (PackCall P)) (flips : ℕ → ℕ → Bool) (rs : List (ReceiveCall R)) (start : Record)
      → Session Packs Receives ord ps flips rs start → Claim ord ps flips rs start
  claim ord ps flips rs start s = steps_claim ord ps flips rs start (record {
    packing = run_weaker (λ c. c.given) pack_left Packs PackStep packs fresh_sync ps s.packing;
    receiving = run_weaker (λ c. c.given) (λ c. c.left) Receives ReceiveStep receives start rs s.receiving;
    packed_same = s.packed_same;
    received_same = s.received_same;
    delivered = s.delivered;
  })
