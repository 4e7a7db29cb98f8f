-- Calls of the code, as they are observed: each is some call of a function of which its contract holds, by the checker's own reading
-- of its `ensures`; and of a call in place, the equation that each of its clauses is (`ReceivingCalls.in_place_says`).
use Rattle.std.specs.Prelude.{ℕ, ◌≡◌, Bool, List, Result}
use seplogic.Ra.Ura.{Ura}
use prog.Memory.{Memory}
use prog.Routine.{Routine}
use base.Logic.{SProp}
use types.Logic.{Logic}
use contract.Monad.{Fun}
use contract.Notation.{connectives}
use contract.Lifetimes.{Lfts}
use borrow.Fn.World.{ArgsD, ResD}
use denote.Triple.Clauses.{AtExit}
use Rattle.refusal.specs.declared.Refusal.{Refusal}
use Rattle.sets.specs.declared.ParameterSet.{ParameterSet}
use Rattle.frame.specs.contracts.pack as pack
use Rattle.frame.proofs.pack.Reads as pack-reads
use Rattle.records.specs.declared.Record.{Record}
use Rattle.receiver.specs.Receiving.{receive}
use Rattle.receiver.specs.declared.FrameResult.{FrameResult}
use Rattle.receiver.specs.contracts.receive as value
use Rattle.receiver.proofs.receive.Reads as value-reads
use Rattle.receiver.specs.contracts.receive_in_place as place
use Rattle.receiver.proofs.receive_in_place.Reads as place-reads
use Rattle.calls.specs.Model.{pack_kind, receive_kind}
use Rattle.calls.specs.Calls.{PackCall, ReceiveCall}

-- a packing call by what it was passed, gave and left
abbrev pub pack_call : List ℕ → ParameterSet → Bool → List ℕ → Result Bool Refusal → List ℕ → PackCall pack_kind
pack_call order set sync lent answer output = record {
  arguments = record { order = order; set = set; lent = lent };
  given = sync;
  answer = answer;
  output = output;
}

-- one of `frame::pack`
pub record CodePacks (c : PackCall pack_kind) : Type 0 where
  pub κs : Lfts 2
  pub passed : ArgsD pack.signature κs
  pub gave : ResD pack.signature κs
  pub left : AtExit pack.ended κs
  pub contract : pack-reads.Post κs passed gave left
  pub observed : c ≡ pack_call passed.1.1.0.now passed.0 passed.1.0 passed.1.1.1.0.now gave left.1.1.1.0.now

-- a receiving call by what it was passed, gave and left
abbrev pub receive_call : List ℕ → Record → List ℕ → Result FrameResult Refusal → Record → ReceiveCall receive_kind
receive_call order given bytes answer left = record { arguments = record { order = order; frame = bytes }; given = given; answer = answer; left = left }

-- one of `receiver::receive`
pub record CodeByValue (c : ReceiveCall receive_kind) : Type 0 where
  pub κs : Lfts 2
  pub passed : ArgsD value.signature κs
  pub gave : ResD value.signature κs
  pub left : AtExit value.ended κs
  pub contract : value-reads.Post κs passed gave left
  pub observed : c ≡ receive_call passed.1.1.0.now passed.0 passed.1.0.now gave.answer gave.next

-- what a call owes, and of a call in place what each clause says: the answer, and the record in the caller's memory afterwards
abbrev pub Answered : List ℕ → Record → List ℕ → Result FrameResult Refusal → Type 0
Answered order given bytes answer = answer ≡ (receive order given bytes).answer

abbrev pub Leaves : List ℕ → Record → List ℕ → Record → Type 0
Leaves order given bytes left = left ≡ (receive order given bytes).next

-- one of `receiver::receive_in_place`, by the record in the caller's memory before and afterwards
pub record CodeInPlace (c : ReceiveCall receive_kind) : Type 0 where
  pub κs : Lfts 3
  pub passed : ArgsD place.signature κs
  pub gave : ResD place.signature κs
  pub left : AtExit place.ended κs
  pub contract : place-reads.Post κs passed gave left
  pub observed : c ≡ receive_call passed.1.1.0.now passed.0.now passed.1.0.now gave left.0.now

-- a receiving call of the code, made in one of two ways
pub data Way : Type 0 where
  by_value in_place : Way

abbrev pub CodeReceivesBy : Way → ReceiveCall receive_kind → Type 0
CodeReceivesBy by_value c = CodeByValue c
CodeReceivesBy in_place c = CodeInPlace c

abbrev pub CodeReceives : ReceiveCall receive_kind → Type 0
CodeReceives c = (way : Way) × CodeReceivesBy way c

-- that the two clauses of the call in place are those equations, of the record, the frame and the order at entry and of the record at exit
abbrev pub InPlaceSays : Type 2
InPlaceSays = (M : Type 1) (𝓤 : Ura M) (𝓛 : Logic 𝓤) (κs : Lfts 3) (m : Memory → SProp 𝓤) (run : Routine → Fun 𝓤)
    (rec : _) (bytes : _) (order : _) (rec' : _) (bytes' : _) (order' : _) (r : _)
    → (place.ensures-answer 𝓛 κs m run rec bytes order rec' bytes' order' r
    ≡ (connectives 𝓤).⌜◌⌝ (Answered order'.entry.now rec'.entry.now bytes'.entry.now r))
    × (place.ensures-record 𝓛 κs m run rec bytes order rec' bytes' order' r
    ≡ (connectives 𝓤).⌜◌⌝ (Leaves order'.entry.now rec'.entry.now bytes'.entry.now rec'.exit.now))
