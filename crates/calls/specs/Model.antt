-- Document 01, "Lists of calls": the reference model, document 01's reckoning. It is fed the calls' arguments alone and keeps a state of its own.
-- It takes the kind of call: another kind may be passed more, and have refusals of its own.
use Rattle.std.specs.Prelude.{ℕ, ◌≡◌, Bool, not, List, [], ◌∷◌, length, Option, None, Some, Result, Ok, Err}
use Rattle.refusal.specs.Refusals.{number_of}
use Rattle.refusal.specs.declared.Refusal.{Refusal}
use Rattle.frame.specs.Layout.{frame}
use Rattle.frame.specs.Packing.{pack_refusal}
use Rattle.sets.specs.declared.ParameterSet.{ParameterSet}
use Rattle.receiver.specs.Receiving.{receive_refusal, receive_unless}
use Rattle.receiver.specs.declared.FrameResult.{FrameResult}
use Rattle.records.specs.declared.Record.{Record}
use Rattle.receiver.specs.declared.Received.{Received}

-- what a call answers: a value, or the number of its refusal
pub data Answer (A : Type 0) : Type 0 where
  done : A → Answer A
  refused : ℕ → Answer A

-- what is compared of a call: its answer, and the state after it
pub record Outcome (A S : Type 0) : Type 0 where
  pub answer : Answer A
  pub state : S

-- the outcomes of a list of calls from a state, each call from the state after the one before it
abbrev pub outcomes : {X A S : Type 0} → (S → X → Outcome A S) → S → List X → List (Outcome A S)
outcomes model s [] = []
outcomes model s (x ∷ xs) = model s x ∷ outcomes model (model s x).state xs

-- a kind of packing call: what it is passed besides the sync bit, the order of the bits, the set and the lent output therein, and what refuses it; its
-- refusals are of a type of its own, and each has a number
pub record PackKind : Type 1 where
  pub Arguments : Type 0
  pub order : Arguments → List ℕ
  pub set : Arguments → ParameterSet
  pub lent : Arguments → List ℕ
  pub Refused : Type 0
  pub number : Refused → ℕ
  pub refusal : Bool → Arguments → Option Refused
  -- what the table refuses of an order, a set and an output, it refuses too
  pub covers : (sync : Bool) (x : Arguments) → refusal sync x ≡ None → pack_refusal (order x) (set x) (length (lent x)) ≡ None

-- packing: a call that is refused gives its number and the sync bit stays; any other gives the frame of the set with this sync bit, in its own order, and
-- the sync bit changes
abbrev pub pack_unless : {F : Type 0} → (F → ℕ) → Option F → List ℕ → Bool → ParameterSet → Outcome (List ℕ) Bool
pack_unless number None ord sync set = record { answer = done (frame ord set sync); state = not sync }
pack_unless number (Some f) ord sync set = record { answer = refused (number f); state = sync }

abbrev pub pack_model : (P : PackKind) → Bool → P.Arguments → Outcome (List ℕ) Bool
pack_model P sync x = pack_unless P.number (P.refusal sync x) (P.order x) sync (P.set x)

-- a kind of receiving call: what it is passed besides the record, the order and the frame therein, and what refuses it; its refusals are of a type of
-- its own, and each has a number
pub record ReceiveKind : Type 1 where
  pub Arguments : Type 0
  pub order : Arguments → List ℕ
  pub frame : Arguments → List ℕ
  pub Refused : Type 0
  pub number : Refused → ℕ
  pub refusal : Record → Arguments → Option Refused
  -- what the table refuses of an order, a frame and a record, it refuses too
  pub covers : (r : Record) (x : Arguments) → refusal r x ≡ None → receive_refusal (order x) r (frame x) ≡ None

-- an answer by the numbers of its refusals, and by the table's
abbrev pub answer_by : {A F : Type 0} → (F → ℕ) → Result A F → Answer A
answer_by number (Ok x) = done x
answer_by number (Err f) = refused (number f)

abbrev pub answer_of : Result FrameResult Refusal → Answer FrameResult
answer_of = answer_by number_of

abbrev pub outcome_of : Received → Outcome FrameResult Record
outcome_of y = record { answer = answer_of y.answer; state = y.next }

-- receiving: a call that is refused gives its number and the record stays; any other gives the result and the next record that the
-- definition of the receiver has for the bits received, in the call's own order, and this record
abbrev pub outcome_unless : {F : Type 0} → (F → ℕ) → Option F → List ℕ → Record → List ℕ → Outcome FrameResult Record
outcome_unless number None ord r bytes = outcome_of (receive_unless None ord r bytes)
outcome_unless number (Some f) ord r bytes = record { answer = refused (number f); state = r }

abbrev pub receive_model : (R : ReceiveKind) → Record → R.Arguments → Outcome FrameResult Record
receive_model R r x = outcome_unless R.number (R.refusal r x) (R.order x) r (R.frame x)

-- document 01's own calls with the order that document 02, T-07, lends them, which only the table refuses: packing is passed an order, a set and a lent
-- output, receiving an order and a frame
pub record PackArguments : Type 0 where
  pub order : List ℕ
  pub set : ParameterSet
  pub lent : List ℕ

abbrev pub pack_kind : PackKind
pack_kind = record {
  Arguments = PackArguments;
  order = λ x. x.order;
  set = λ x. x.set;
  lent = λ x. x.lent;
  Refused = Refusal;
  number = number_of;
  refusal = λ sync x. pack_refusal x.order x.set (length x.lent);
  covers = λ sync x e. e;
}

pub record ReceiveArguments : Type 0 where
  pub order : List ℕ
  pub frame : List ℕ

abbrev pub receive_kind : ReceiveKind
receive_kind = record {
  Arguments = ReceiveArguments;
  order = λ x. x.order;
  frame = λ x. x.frame;
  Refused = Refusal;
  number = number_of;
  refusal = λ r x. receive_refusal x.order r x.frame;
  covers = λ r x e. e;
}
