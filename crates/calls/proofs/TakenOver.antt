-- Lists of receiving calls of the code from a record that was taken over: each call keeps in step with the old receiver, so the whole list does.
-- Assumes nothing.
use mathlib.Core.Path.{◌≡◌, refl, ap, ◌∙◌, subst⁻¹}
use mathlib.Core.List.{List, [], ◌∷◌, map}
use Rattle.std.specs.Prelude.{Result}
use Rattle.refusal.specs.declared.Refusal.{Refusal}
use Rattle.records.specs.OldRecords.{with_count, taken_over}
use Rattle.records.specs.declared.OldRecord.{OldRecord}
use Rattle.records.specs.declared.Record.{Record}
use Rattle.receiver.specs.Receiving.{receive}
use Rattle.receiver.specs.SoftReceiving.{soft_receive}
use Rattle.receiver.specs.TakenOver.{in_step}
use Rattle.receiver.specs.declared.FrameResult.{FrameResult}
use Rattle.receiver.specs.declared.Received.{Received}
use Rattle.receiver.proofs.TakenOver.{taken_over_lem}
use Rattle.calls.specs.Model.{answer_of, outcomes}
use Rattle.calls.specs.CodeCalls.{receive_call, Way}
use Rattle.calls.specs.AnyCalls.{Passed, plain, soft, AnyCall, any_outcome, CodeReceivesAs, CodeReceivesAny, AnyRun}
use Rattle.calls.specs.TakenOver.{TakingCall, old_call, old_model, outcome_in_step, AlwaysInStep}
use Rattle.calls.proofs.ReceivingCalls.{receive_owes}
use Rattle.calls.proofs.SoftCalls.{soft_owes}

-- what the receiver gives for a call
abbrev pub new_call : Record → Passed → Received
new_call r (plain order bytes) = receive order r bytes
new_call r (soft order bytes confidences) = soft_receive order r bytes confidences

-- a call of the code gives that, in each way
owed : (way : Way) (x : Passed) (given : Record) (answer : Result FrameResult Refusal) (left : Record) → CodeReceivesAs way x given answer left
    → (answer ≡ (new_call given x).answer) × (left ≡ (new_call given x).next)
owed way (plain order bytes) given answer left k = receive_owes way (receive_call order given bytes answer left) k
owed way (soft order bytes confidences) given answer left k = soft_owes way _ k

-- from a record that was taken over it is what the old record leads to
kept : (old : OldRecord) (x : Passed) → new_call (with_count old) x ≡ in_step (old_call old x)
kept old (plain order bytes) = (taken_over_lem old order bytes).plain
kept old (soft order bytes confidences) = (taken_over_lem old order bytes).soft confidences

-- so a call of the code keeps in step
call_kept : (old : OldRecord) (c : AnyCall) → CodeReceivesAny c → c.given ≡ with_count old → any_outcome c ≡ outcome_in_step (old_model old c.passed)
call_kept old c k e =
    let o = owed k.0 c.passed c.given c.answer c.left k.1 in
    let gives : new_call c.given c.passed ≡ in_step (old_call old c.passed) = ap (λ (r : Record). new_call r c.passed) e ∙ kept old c.passed in
    λ i. record { answer = answer_of ((o.0 ∙ ap (λ (y : Received). y.answer) gives) i); state = (o.1 ∙ ap (λ (y : Received). y.next) gives) i }

-- and so does a list
list_kept : (old : OldRecord) (r : Record) (cs : List AnyCall) → r ≡ with_count old → AnyRun r cs
    → map any_outcome cs ≡ map outcome_in_step (outcomes old_model old (map (λ c. c.passed) cs))
list_kept old r [] e h = refl
list_kept old r (c ∷ cs) e h =
    let here = call_kept old c h.1 (h.0 ∙ e) in
    let rest = list_kept (old_model old c.passed).state c.left cs (λ i. (here i).state) h.2 in
    λ i. here i ∷ rest i

pub always_in_step : AlwaysInStep
always_in_step t cs k h =
    let made : t.gave ≡ taken_over t.old = subst⁻¹ (λ (x : TakingCall). x.gave ≡ taken_over x.old) k.observed k.contract in
    let next : t.gave.next ≡ with_count t.old = λ i. (made i).next in
    record { refusal = λ i. (made i).answer; next = next; received = list_kept t.old t.gave.next cs next h }
