-- Demands 2 and 3 for the calls of the code: every packing call is one of `frame::pack`, every receiving call one of `receiver::receive`
-- or `receiver::receive_in_place`, mixed at will, none with confidences; of each only its contract is known. Proved in the law file of this name.
use Rattle.std.specs.Prelude.{ℕ, ◌≤◌, ◌≡◌, Bool, List, T, length, None}
use Rattle.order.specs.Order.{Order}
use Rattle.sets.specs.Sets.{sendable}
use Rattle.sets.specs.declared.ParameterSet.{ParameterSet}
use Rattle.records.specs.Records.{valid}
use Rattle.records.specs.declared.Record.{Record}
use Rattle.calls.specs.Model.{PackArguments, pack_kind, receive_kind}
use Rattle.calls.specs.Calls.{PackCall, PackStep, ReceiveCall, ReceiveStep}
use Rattle.calls.specs.Return.{DefinedReturn, CallsReturn}
use Rattle.calls.specs.Claim.{Session, Claim}
use Rattle.calls.specs.Script.{Wish, arguments_refusal, Script, Had}
use Rattle.calls.specs.CodeCalls.{CodePacks, Way, CodeReceivesBy, CodeReceives}

-- demand 2, in every order: the code's calls; the definitions; and calls that do what the model does
pub record Demand2 : Type 0 where
  pub code : CallsReturn CodePacks CodeReceives
  pub defined : (ord : List ℕ) → Order ord → DefinedReturn ord
  pub calls : CallsReturn PackStep ReceiveStep

-- demand 3: two whole lists of the code's calls, in the order that those not refused are lent, with bursts of its width
abbrev pub Demand3 : Type 0
Demand3 = (ord : List ℕ) (ps : List (PackCall pack_kind)) (flips : ℕ → ℕ → Bool) (rs : List (ReceiveCall receive_kind)) (start : Record)
    → Session CodePacks CodeReceives ord ps flips rs start → Claim ord ps flips rs start

-- and what it is given can be had of the code: in every order, for any arguments, flips and valid record, with calls by value and in place as asked for
abbrev pub SessionsHad : Type 0
SessionsHad = (ord : List ℕ) (xs : List PackArguments) (flips : ℕ → ℕ → Bool) (script : List (Wish Way)) (start : Record) → T (valid start)
    → Script ord xs script → Had CodePacks CodeReceivesBy ord xs flips script start

-- a packing call that is lent an order, at least seven bytes and a set that a sender takes is not refused: so in every order there are arguments that pack
abbrev pub OrdersPack : Type 0
OrdersPack = (ord : List ℕ) → Order ord → (set : ParameterSet) → T (sendable set) → (lent : List ℕ) → 7 ≤ length lent
    → arguments_refusal (record { order = ord; set = set; lent = lent }) ≡ None
