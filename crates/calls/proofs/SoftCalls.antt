-- Receiving calls of the code with confidences: an undamaged frame is received as without them, so the set that was packed returns.
-- Assumes nothing.
use mathlib.Core.Path.{◌≡◌, refl, sym, ap, ◌∙◌, subst⁻¹}
use mathlib.Core.List.{List, []}
use Prim.Native.Nat.{ℕ}
use Rattle.order.specs.Order.{Order}
use Rattle.frame.specs.Layout.{frame}
use Rattle.sets.proofs.Ranges.{sendable_fits}
use Rattle.receiver.specs.Receiving.{receive}
use Rattle.receiver.specs.SoftReceiving.{soft_receive}
use Rattle.receiver.specs.declared.Received.{Received}
use Rattle.records.specs.declared.Record.{Record}
use Rattle.damage.proofs.SoftReturn.{undamaged_alike}
use Rattle.calls.specs.Model.{answer_of}
use Rattle.calls.specs.Calls.{ReceiveStep}
use Rattle.calls.specs.CodeCalls.{Way, by_value, in_place}
use Rattle.calls.specs.SoftCalls.{SoftCall, plainly, SoftAnswered, SoftLeaves, CodeReceivesSoft, SoftInPlaceSays, SoftReturn, SoftHad}
use Rattle.calls.proofs.Demands.{demand_2}
use Rattle.calls.proofs.PackingCalls.{slice, lent_to_write, code_packs}
use Rattle.calls.proofs.Steps.{model_is, pack_order_lem, pack_sendable, pack_sent}

-- the two clauses of the call in place say exactly that
pub soft_in_place_says : SoftInPlaceSays
soft_in_place_says M 𝓤 𝓛 κs m run rec bytes order confidences rec' bytes' order' confidences' r = (refl, refl)

-- such calls can be had
module _ (order : List ℕ) (given : Record) (bytes confidences : List ℕ) where
  abbrev found : Received
  found = soft_receive order given bytes confidences

  abbrev call : SoftCall
  call = record { order = order; frame = bytes; confidences = confidences; given = given; answer = found.answer; left = found.next }

  pub soft_made : (way : Way) → CodeReceivesSoft way call
  soft_made by_value = record {
    κs = ([], ([], ([], tt)));
    passed = (given, (slice bytes, (slice order, (slice confidences, tt))));
    gave = found;
    left = (given, (slice bytes, (slice order, (slice confidences, tt))));
    contract = refl;
    observed = refl;
  }
  soft_made in_place = record {
    κs = ([], ([], ([], ([], tt))));
    passed = (lent_to_write given, (slice bytes, (slice order, (slice confidences, tt))));
    gave = found.answer;
    left = (lent_to_write found.next, (slice bytes, (slice order, (slice confidences, tt))));
    contract = (refl, refl);
    observed = refl;
  }

  pub soft_had : (way : Way) → SoftHad way order given bytes confidences
  soft_had way = record { call = call; made = soft_made way; order_is = refl; frame_is = refl; confidences_are = refl; given_is = refl }

-- what a call owes: the answer and the record of the definition
abbrev pub SoftOwed : SoftCall → Type 0
SoftOwed d = SoftAnswered d.order d.given d.frame d.confidences d.answer × SoftLeaves d.order d.given d.frame d.confidences d.left

-- whichever way it is made
pub soft_owes : (way : Way) (d : SoftCall) → CodeReceivesSoft way d → SoftOwed d
soft_owes by_value d m = subst⁻¹ SoftOwed m.observed (λ i. (m.contract i).answer, λ i. (m.contract i).next)
soft_owes in_place d m = subst⁻¹ SoftOwed m.observed m.contract

-- and a call that has them is such a call, in each way
pub soft_owed_made : (way : Way) (d : SoftCall) → SoftOwed d → CodeReceivesSoft way d
soft_owed_made way d h =
    subst⁻¹
    (CodeReceivesSoft way)
    (λ i. record { order = d.order; frame = d.frame; confidences = d.confidences; given = d.given; answer = h.0 i; left = h.1 i })
    (soft_made d.order d.given d.frame d.confidences way)

-- a frame that is received alike with these confidences and without: the model's step
plain_step : (way : Way) (d : SoftCall) → CodeReceivesSoft way d
    → soft_receive d.order d.given d.frame d.confidences ≡ receive d.order d.given d.frame → ReceiveStep (plainly d)
plain_step way d m same =
    let x = soft_owes way d m in
    (λ i. record { answer = answer_of ((x.0 ∙ ap (λ (y : Received). y.answer) same) i); state = (x.1 ∙ ap (λ (y : Received). y.next) same) i })
    ∙ sym (model_is d.given (record { order = d.order; frame = d.frame }))

-- the set that was packed returns
pub soft_return : SoftReturn
soft_return c way d k m e v o f size above =
    let p = code_packs c k in
    let set = c.arguments.set in
    let ord = d.order in
    let is_order_lem : Order ord = subst⁻¹ Order o (pack_order_lem c p e) in
    let bytes : d.frame ≡ frame ord set c.given = f ∙ pack_sent c p e ∙ ap (λ (x : List ℕ). frame x set c.given) (sym o) in
    let same : soft_receive ord d.given d.frame d.confidences ≡ receive ord d.given d.frame =
    ap (λ (b : List ℕ). soft_receive ord d.given b d.confidences) bytes
    ∙ undamaged_alike ord is_order_lem d.confidences size above d.given set c.given (sendable_fits set (pack_sendable c p e))
    ∙ sym (ap (receive ord d.given) bytes) in
    demand_2.calls.returns c (plainly d) p (plain_step way d m same) e v o f
