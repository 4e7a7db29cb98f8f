-- Document 02, T-06: a call of the code that takes over a record of the old kind, any list of its receiving calls afterwards, and what is claimed of them
-- beside the old receiver.
use Rattle.std.specs.Prelude.{◌≡◌, List, [], ◌∷◌, map}
use contract.Lifetimes.{Lfts}
use borrow.Fn.World.{ArgsD, ResD}
use denote.Triple.Clauses.{AtExit}
use Rattle.records.specs.OldRecords.{old_answer, with_count}
use Rattle.records.specs.declared.OldRecord.{OldRecord}
use Rattle.records.specs.declared.Record.{Record}
use Rattle.records.specs.declared.TakenOver.{TakenOver}
use Rattle.records.specs.contracts.take_over as taking
use Rattle.records.proofs.take_over.Reads as taking-reads
use Rattle.receiver.specs.OldReceiving.{OldReceived, old_receive, old_soft_receive}
use Rattle.receiver.specs.declared.FrameResult.{FrameResult}
use Rattle.calls.specs.Model.{Outcome, outcomes, answer_of}
use Rattle.calls.specs.CodeCalls.{Way}
use Rattle.calls.specs.AnyCalls.{Passed, plain, soft, AnyCall, any_outcome, CodeReceivesAs, AnyRun}

-- a call that takes a record over: what it was passed and what it gave
pub record TakingCall : Type 0 where
  pub old : OldRecord
  pub gave : TakenOver

-- one of `records::take_over`
pub record CodeTakesOver (t : TakingCall) : Type 0 where
  pub κs : Lfts 0
  pub passed : ArgsD taking.signature κs
  pub gave : ResD taking.signature κs
  pub left : AtExit taking.ended κs
  pub contract : taking-reads.Post κs passed gave left
  pub observed : t ≡ record { old = passed.0; gave = gave }

-- what the old receiver gives for a receiving call
abbrev pub old_call : OldRecord → Passed → OldReceived
old_call old (plain order bytes) = old_receive order old bytes
old_call old (soft order bytes confidences) = old_soft_receive order old bytes confidences

abbrev pub old_model : OldRecord → Passed → Outcome FrameResult OldRecord
old_model old x = record { answer = answer_of (old_call old x).answer; state = (old_call old x).next }

-- the same answer, and the record of the old receiver taken over
abbrev pub outcome_in_step : Outcome FrameResult OldRecord → Outcome FrameResult Record
outcome_in_step o = record { answer = o.answer; state = with_count o.state }

-- what is claimed: the old record is refused where it is not valid, and beside the refusal stands the record with the count; each call afterwards
-- has the answer that the old receiver gives, and leaves the record that this one leaves, taken over
pub record KeptInStep (t : TakingCall) (cs : List AnyCall) : Type 0 where
  pub refusal : t.gave.answer ≡ old_answer t.old
  pub next : t.gave.next ≡ with_count t.old
  pub received : map any_outcome cs ≡ map outcome_in_step (outcomes old_model t.old (map (λ c. c.passed) cs))

-- for every old record, valid or not, and every list of calls from what was given for it
abbrev pub AlwaysInStep : Type 0
AlwaysInStep = (t : TakingCall) (cs : List AnyCall) → CodeTakesOver t → AnyRun t.gave.next cs → KeptInStep t cs

-- calls that are made as asked for: one for each way and what is passed
abbrev pub MadeAs : List (Way × Passed) → List AnyCall → Type 0
MadeAs [] [] = Unit
MadeAs [] (c ∷ cs) = ⊥
MadeAs (x ∷ xs) [] = ⊥
MadeAs (x ∷ xs) (c ∷ cs) = CodeReceivesAs x.0 x.1 c.given c.answer c.left × (c.passed ≡ x.1) × MadeAs xs cs

-- such lists of calls
pub record TakenOverHad (old : OldRecord) (xs : List (Way × Passed)) : Type 0 where
  pub taking : TakingCall
  pub takes : CodeTakesOver taking
  pub old_is : (taking).old ≡ old
  pub calls : List AnyCall
  pub run : AnyRun (taking).gave.next calls
  pub made : MadeAs xs calls

-- can be had for every old record, made in any ways and passed anything
abbrev pub AlwaysHad : Type 0
AlwaysHad = (old : OldRecord) (xs : List (Way × Passed)) → TakenOverHad old xs
