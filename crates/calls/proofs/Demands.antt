-- Demands 2 and 3 for the calls of the code: their contracts imply the model's step, so the laws for any such calls hold of them.
-- Assumes nothing.
use mathlib.Core.Bool.{not}
use mathlib.Core.List.{[], ◌∷◌}
use lib.ListN.{length}
use borrow.Author.Tests.{le-ltb}
use Rattle.refusal.specs.Refusals.{first_refusal}
use Rattle.refusal.specs.declared.Refusal.TheVariants.{ShortOutput, OutOfRange, InvalidOrder}
use Rattle.bits.proofs.Tests.{true_T}
use Rattle.order.specs.Order.{is_order}
use Rattle.order.proofs.Orders.{is_order_lem}
use Rattle.sets.specs.Sets.{sendable}
use Rattle.frame.specs.Packing.{pack_answer, pack_writes}
use Rattle.calls.specs.Calls.{PackStep, ReceiveStep}
use Rattle.calls.specs.CodeCalls.{CodePacks, CodeReceivesBy, CodeReceives}
use Rattle.calls.specs.Demands.{Demand2, Demand3, SessionsHad, OrdersPack}
use Rattle.calls.proofs.Demand2.{defined_return, calls_return}
use Rattle.calls.proofs.Demand3.{claim}
use Rattle.calls.proofs.PackingCalls.{code_packs, pack_had}
use Rattle.calls.proofs.ReceivingCalls.{code_receives, receive_had}
use Rattle.calls.proofs.Sessions.{sessions}

pub demand_2 : Demand2
demand_2 = record {
  code = calls_return CodePacks code_packs CodeReceives code_receives;
  defined = defined_return;
  calls = calls_return PackStep (λ c k. k) ReceiveStep (λ d l. l);
}

pub demand_3 : Demand3
demand_3 = claim CodePacks code_packs CodeReceives code_receives

pub sessions_had : SessionsHad
unfolding pack_answer pack_writes
sessions_had = sessions CodePacks code_packs pack_had CodeReceivesBy receive_had

pub orders_pack : OrdersPack
orders_pack ord o set t lent h i =
    first_refusal ((le-ltb (length lent) 7 h i, ShortOutput) ∷ (not (true_T (is_order ord) (is_order_lem ord o) i), InvalidOrder) ∷ (not (true_T (sendable set) t i), OutOfRange) ∷ [])
