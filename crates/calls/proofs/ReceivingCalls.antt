-- Receiving calls of the code, by value and in place: what the toolchain reads in the contracts of `receiver::receive` and
-- `receiver::receive_in_place` is the model's step.
-- Assumes nothing.
use mathlib.Core.Path.{refl, sym, ◌∙◌, subst⁻¹}
use mathlib.Core.List.{[]}
use Rattle.receiver.specs.Receiving.{receive}
use Rattle.records.specs.declared.Record.{Record}
use Rattle.calls.specs.Model.{answer_of, ReceiveArguments, receive_kind}
use Rattle.calls.specs.Calls.{ReceiveCall, receive_order, frame_in, ReceiveStep}
use Rattle.calls.proofs.Steps.{model_is}
use Rattle.calls.proofs.PackingCalls.{slice, lent_to_write}
use Rattle.calls.specs.CodeCalls.{receive_call, Answered, Leaves, InPlaceSays, Way, by_value, in_place, CodeReceivesBy, CodeReceives}

-- there is such a call of each way for every record, order and frame
pub receive_had : (way : Way) (given : Record) (x : ReceiveArguments)
    → CodeReceivesBy way (receive_call x.order given x.frame (receive x.order given x.frame).answer (receive x.order given x.frame).next)
receive_had by_value given x = record {
  κs = ([], ([], tt));
  passed = (given, (slice x.frame, (slice x.order, tt)));
  gave = receive x.order given x.frame;
  left = (given, (slice x.frame, (slice x.order, tt)));
  contract = refl;
  observed = refl;
}
receive_had in_place given x = record {
  κs = ([], ([], ([], tt)));
  passed = (lent_to_write given, (slice x.frame, (slice x.order, tt)));
  gave = (receive x.order given x.frame).answer;
  left = (lent_to_write (receive x.order given x.frame).next, (slice x.frame, (slice x.order, tt)));
  contract = (refl, refl);
  observed = refl;
}

-- the two clauses of the call in place say exactly that
pub in_place_says : InPlaceSays
in_place_says M 𝓤 𝓛 κs m run rec bytes order rec' bytes' order' r = (refl, refl)

-- what a call owes: the answer and the record of the definition
abbrev pub Owed : ReceiveCall receive_kind → Type 0
Owed c = Answered (receive_order c) c.given (frame_in c) c.answer × Leaves (receive_order c) c.given (frame_in c) c.left

-- whichever way it is made
pub receive_owes : (way : Way) (c : ReceiveCall receive_kind) → CodeReceivesBy way c → Owed c
receive_owes by_value c k = subst⁻¹ Owed k.observed (λ i. (k.contract i).answer, λ i. (k.contract i).next)
receive_owes in_place c k = subst⁻¹ Owed k.observed k.contract

-- and a call that has them is such a call, in each way
pub owed_made : (way : Way) (c : ReceiveCall receive_kind) → Owed c → CodeReceivesBy way c
owed_made way c h =
    subst⁻¹ (CodeReceivesBy way) (λ i. receive_call (receive_order c) c.given (frame_in c) (h.0 i) (h.1 i)) (receive_had way c.given c.arguments)

-- so a receiving call of the code does what the model does
pub code_receives : (c : ReceiveCall receive_kind) → CodeReceives c → ReceiveStep c
code_receives c k =
    let h = receive_owes k.0 c k.1 in
    (λ i. record { answer = answer_of (h.0 i); state = h.1 i }) ∙ sym (model_is c.given c.arguments)
