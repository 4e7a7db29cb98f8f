-- What the theorem is given can be had: in every order, for any arguments of packing calls, any flips, any valid record and any script of receiving
-- calls there are such lists of calls, wherever a call of each kind can be had, and every frame packed is received.
-- Assumes nothing.
use mathlib.Core.Path.{◌≡◌, refl, sym, ap, ◌∙◌, subst⁻¹}
use mathlib.Core.Bool.{Bool, not}
use mathlib.Core.List.{List, [], ◌∷◌, map}
use Prim.Native.Nat.{ℕ, suc}
use lib.Dec.{T}
use lib.ListN.{length, length-map}
use Rattle.std.specs.Prelude.{None}
use Rattle.refusal.specs.Refusals.{unless}
use Rattle.bits.specs.Lists.{Every, written_unless}
use Rattle.order.specs.Order.{frame_refusal}
use Rattle.order.proofs.Refusals.{packed_taken, through_taken}
use Rattle.frame.specs.Layout.{logical_of, frame}
use Rattle.frame.specs.Packing.{fresh_sync}
use Rattle.records.specs.Records.{valid}
use Rattle.records.specs.declared.Record.{Record}
use Rattle.calls.specs.Model.{PackArguments, pack_kind, ReceiveArguments, receive_kind}
use Rattle.calls.specs.Calls.{PackCall, pack_order, pack_call_refusal, pack_left, sent, PackStep, PackRun, ReceiveCall, unrefused, channel}
use Rattle.calls.specs.Script.{Wish, arguments_refusal, Script, Had}
use Rattle.calls.specs.CodeCalls.{pack_call}
use Rattle.calls.proofs.Runs.{run_every, run_with, run_unrefused, run_weaker, unrefused_map}
use Rattle.calls.proofs.Steps.{pack_leaves}
use Rattle.calls.proofs.Rows.{PacksFrame, packs_frame, packs_order}
use Rattle.calls.proofs.Scripts.{receive_one, script_served}

-- a channel hands on every frame
channel_length : (flips : ℕ → ℕ → Bool) (bs : List (List ℕ)) → length (channel flips bs) ≡ length bs
channel_length flips [] = refl
channel_length flips (b ∷ bs) = ap suc (channel_length (λ k. flips (suc k)) bs)

-- as many as there are arguments that are not refused
frames_length : (flips : ℕ → ℕ → Bool) (ps : List (PackCall pack_kind))
    → length (channel flips (map sent (unrefused pack_call_refusal ps))) ≡ length (unrefused arguments_refusal (map (λ c. c.arguments) ps))
frames_length flips ps =
    channel_length flips (map sent (unrefused pack_call_refusal ps))
    ∙ length-map (unrefused pack_call_refusal ps) sent
    ∙ sym (length-map (unrefused pack_call_refusal ps) (λ c. c.arguments))
    ∙ ap length (unrefused_map (λ c. c.arguments) arguments_refusal ps)

-- the call that arguments lead to, from a sync bit, and the list of them
abbrev pub pack_one : Bool → PackArguments → PackCall pack_kind
pack_one s x =
    pack_call x.order x.set s x.lent (unless (arguments_refusal x) (not s))
    (written_unless (arguments_refusal x) 7 (frame x.order x.set s) x.lent)

abbrev pack_all : Bool → List PackArguments → List (PackCall pack_kind)
pack_all s [] = []
pack_all s (x ∷ xs) = pack_one s x ∷ pack_all (pack_left (pack_one s x)) xs

pack_arguments : (s : Bool) (xs : List PackArguments) → map (λ c. c.arguments) (pack_all s xs) ≡ xs
pack_arguments s [] = refl
pack_arguments s (x ∷ xs) = ap (λ (l : List PackArguments). x ∷ l) (pack_arguments (pack_left (pack_one s x)) xs)

-- what is claimed of the arguments holds of the calls
every_argument : (Q : PackArguments → Type 0) (ps : List (PackCall pack_kind)) → Every Q (map (λ c. c.arguments) ps) → Every (λ c. Q c.arguments) ps
every_argument Q [] h = tt
every_argument Q (p ∷ ps) h = (h.0, every_argument Q ps h.1)

-- what the channel hands on of packed frames is taken
delivered_taken : (ord : List ℕ) (flips : ℕ → ℕ → Bool) (ps : List (PackCall pack_kind)) → Every (PacksFrame ord) ps
    → Every (λ b. frame_refusal ord b ≡ None) (channel flips (map sent ps))
delivered_taken ord flips [] h = tt
delivered_taken ord flips (p ∷ ps) h =
    let k = h.0 in (
      through_taken ord (flips 0) (sent p)
          (ap (frame_refusal ord) (packs_frame ord p k) ∙ packed_taken ord (packs_order ord p k) (logical_of p.arguments.set p.given)),
      delivered_taken ord (λ k. flips (suc k)) ps h.1,
    )

-- calls whose contracts imply the model's step, and of which there is one for all arguments and in each way
module _ (Packs : PackCall pack_kind → Type 0) (packs : (c : PackCall pack_kind) → Packs c → PackStep c)
    (pack_had : (s : Bool) (x : PackArguments) → Packs (pack_one s x)) {Way : Type 0} (Receives : Way → ReceiveCall receive_kind → Type 0)
    (receive_had : (way : Way) (r : Record) (x : ReceiveArguments) → Receives way (receive_one r x)) where
  pack_runs : (s : Bool) (xs : List PackArguments) → PackRun Packs s (pack_all s xs)
  pack_runs s [] = tt
  pack_runs s (x ∷ xs) = (refl, pack_had s x, pack_runs (pack_left (pack_one s x)) xs)

  pub sessions : (ord : List ℕ) (xs : List PackArguments) (flips : ℕ → ℕ → Bool) (script : List (Wish Way)) (start : Record) → T (valid start)
      → Script ord xs script → Had Packs Receives ord xs flips script start
  sessions ord xs flips script start v w =
      let ps : List (PackCall pack_kind) = pack_all fresh_sync xs in
      let kept-ps = unrefused pack_call_refusal ps in
      let steps = run_weaker (λ c. c.given) pack_left Packs PackStep packs fresh_sync ps (pack_runs fresh_sync xs) in
      let kept = run_unrefused (λ c. c.given) pack_left PackStep pack_call_refusal (λ c f k. pack_leaves c k f) fresh_sync ps steps in
      let same : Every (λ c. pack_order c ≡ ord) kept-ps =
      every_argument (λ x. x.order ≡ ord) kept-ps
      (subst⁻¹ (Every (λ x. x.order ≡ ord)) (unrefused_map (λ c. c.arguments) arguments_refusal ps ∙ ap (unrefused arguments_refusal) (pack_arguments fresh_sync xs))
      w.same) in
      let ordered = run_with (λ c. c.given) pack_left (λ c. PackStep c × (pack_call_refusal c ≡ None)) (λ c. pack_order c ≡ ord) fresh_sync kept-ps kept same in
      let all = run_every (λ c. c.given) pack_left (PacksFrame ord) (PacksFrame ord) (λ c k. k) fresh_sync kept-ps ordered in
      let frames : List (List ℕ) = channel flips (map sent kept-ps) in
      let count : length frames ≡ length (unrefused arguments_refusal xs) =
      frames_length flips ps ∙ ap (λ (l : List PackArguments). length (unrefused arguments_refusal l)) (pack_arguments fresh_sync xs) in
      let served = script_served Receives receive_had ord start script frames v (w.as_many ∙ sym count) w.others (delivered_taken ord flips kept-ps all) in
      record {
        packs = ps;
        receives = served.receives;
        arguments = pack_arguments fresh_sync xs;
        granted = served.granted;
        session = record {
          packing = pack_runs fresh_sync xs;
          receiving = served.run;
          packed_same = same;
          received_same = served.same;
          delivered = served.delivered;
        };
      }
