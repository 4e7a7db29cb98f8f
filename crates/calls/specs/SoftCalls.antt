-- Document 02, T-05: receiving calls with confidences as they are observed, and what is claimed of those of the code. Each is some call of a function of
-- which its contract holds, as in `CodeCalls`. Demand 3's lists are about calls without confidences and have none of these.
use Rattle.std.specs.Prelude.{ℕ, ◌<◌, ◌≡◌, List, T, length, Result, None}
use seplogic.Ra.Ura.{Ura}
use prog.Memory.{Memory}
use prog.Routine.{Routine}
use base.Logic.{SProp}
use types.Logic.{Logic}
use contract.Monad.{Fun}
use contract.Notation.{connectives}
use contract.Lifetimes.{Lfts}
use borrow.Fn.World.{ArgsD, ResD}
use denote.Triple.Clauses.{AtExit}
use Rattle.refusal.specs.declared.Refusal.{Refusal}
use Rattle.bits.specs.Lists.{Every}
use Rattle.records.specs.Records.{valid}
use Rattle.records.specs.declared.Record.{Record}
use Rattle.receiver.specs.SoftReceiving.{soft_receive}
use Rattle.receiver.specs.declared.FrameResult.{FrameResult}
use Rattle.receiver.specs.contracts.receive_soft as value
use Rattle.receiver.proofs.receive_soft.Reads as value-reads
use Rattle.receiver.specs.contracts.receive_soft_in_place as place
use Rattle.receiver.proofs.receive_soft_in_place.Reads as place-reads
use Rattle.calls.specs.Model.{pack_kind, receive_kind}
use Rattle.calls.specs.Calls.{PackCall, pack_order, pack_call_refusal, sent, ReceiveCall}
use Rattle.calls.specs.Return.{Returns}
use Rattle.calls.specs.CodeCalls.{CodePacks, receive_call, Way, by_value, in_place}

-- a receiving call with confidences, by value or in place: its order, frame and confidences, the record it was given, its answer, and the record that it
-- returned or left
pub record SoftCall : Type 0 where
  pub order : List ℕ
  pub frame : List ℕ
  pub confidences : List ℕ
  pub given : Record
  pub answer : Result FrameResult Refusal
  pub left : Record

-- what is observed of it but for the confidences
abbrev pub plainly : SoftCall → ReceiveCall receive_kind
plainly d = receive_call d.order d.given d.frame d.answer d.left

-- one of `receiver::receive_soft`
pub record SoftByValue (d : SoftCall) : Type 0 where
  pub κs : Lfts 3
  pub passed : ArgsD value.signature κs
  pub gave : ResD value.signature κs
  pub left : AtExit value.ended κs
  pub contract : value-reads.Post κs passed gave left
  pub observed : d ≡ record {
    order = passed.1.1.0.now;
    frame = passed.1.0.now;
    confidences = passed.1.1.1.0.now;
    given = passed.0;
    answer = gave.answer;
    left = gave.next;
  }

-- what a call owes, and of a call in place what each clause says: the answer, and the record in the caller's memory afterwards
abbrev pub SoftAnswered : List ℕ → Record → List ℕ → List ℕ → Result FrameResult Refusal → Type 0
SoftAnswered order given bytes confidences answer = answer ≡ (soft_receive order given bytes confidences).answer

abbrev pub SoftLeaves : List ℕ → Record → List ℕ → List ℕ → Record → Type 0
SoftLeaves order given bytes confidences left = left ≡ (soft_receive order given bytes confidences).next

-- one of `receiver::receive_soft_in_place`, by the record in the caller's memory before and afterwards
pub record SoftInPlace (d : SoftCall) : Type 0 where
  pub κs : Lfts 4
  pub passed : ArgsD place.signature κs
  pub gave : ResD place.signature κs
  pub left : AtExit place.ended κs
  pub contract : place-reads.Post κs passed gave left
  pub observed : d ≡ record {
    order = passed.1.1.0.now;
    frame = passed.1.0.now;
    confidences = passed.1.1.1.0.now;
    given = passed.0.now;
    answer = gave;
    left = left.0.now;
  }

-- one of the code, made in one of two ways
abbrev pub CodeReceivesSoft : Way → SoftCall → Type 0
CodeReceivesSoft by_value d = SoftByValue d
CodeReceivesSoft in_place d = SoftInPlace d

-- that the two clauses of the call in place are those equations
abbrev pub SoftInPlaceSays : Type 2
SoftInPlaceSays = (M : Type 1) (𝓤 : Ura M) (𝓛 : Logic 𝓤) (κs : Lfts 4) (m : Memory → SProp 𝓤) (run : Routine → Fun 𝓤)
    (rec : _) (bytes : _) (order : _) (confidences : _) (rec' : _) (bytes' : _) (order' : _) (confidences' : _) (r : _)
    → (place.ensures-answer 𝓛 κs m run rec bytes order confidences rec' bytes' order' confidences' r
    ≡ (connectives 𝓤).⌜◌⌝ (SoftAnswered order'.entry.now rec'.entry.now bytes'.entry.now confidences'.entry.now r))
    × (place.ensures-record 𝓛 κs m run rec bytes order confidences rec' bytes' order' confidences' r
    ≡ (connectives 𝓤).⌜◌⌝ (SoftLeaves order'.entry.now rec'.entry.now bytes'.entry.now confidences'.entry.now rec'.exit.now))

-- what is claimed: the undamaged frame of any set that a sender takes comes back as itself in the order that it was packed in, with any 54 confidences
-- above 0 and from any valid record
abbrev pub SoftReturn : Type 0
SoftReturn = (c : PackCall pack_kind) (way : Way) (d : SoftCall) → CodePacks c → CodeReceivesSoft way d → pack_call_refusal c ≡ None → T (valid d.given)
    → d.order ≡ pack_order c → d.frame ≡ sent c → length d.confidences ≡ 54 → Every (λ x. 0 < x) d.confidences → Returns c (plainly d)

-- and that such calls can be had: in each way, for every order, record, frame and confidences
pub record SoftHad (way : Way) (order : List ℕ) (given : Record) (bytes confidences : List ℕ) : Type 0 where
  pub call : SoftCall
  pub made : CodeReceivesSoft way call
  pub order_is : call.order ≡ order
  pub frame_is : call.frame ≡ bytes
  pub confidences_are : call.confidences ≡ confidences
  pub given_is : call.given ≡ given
