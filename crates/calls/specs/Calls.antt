-- Document 01, "Lists of calls": calls as they are observed, lists of them on one sender and on one receiver, and the channel between.
use Rattle.std.specs.Prelude.{ℕ, suc, ◌≡◌, Bool, List, [], ◌∷◌, ◌++◌, take, drop, Option, None, Some, Result, Ok, Err}
use Rattle.order.specs.Order.{through}
use Rattle.sets.specs.declared.ParameterSet.{ParameterSet}
use Rattle.receiver.specs.declared.FrameResult.{FrameResult}
use Rattle.records.specs.declared.Record.{Record}
use Rattle.calls.specs.Model.{Answer, done, refused, Outcome, PackKind, pack_model, ReceiveKind, answer_by, receive_model}

-- a packing call of a kind: its arguments, the sync bit it was given, its answer, and the lent output afterwards
pub record PackCall (P : PackKind) : Type 0 where
  pub arguments : P.Arguments
  pub given : Bool
  pub answer : Result Bool P.Refused
  pub output : List ℕ

-- the order that it is lent, the set that it is to pack, and what refuses it
abbrev pub pack_order : {P : PackKind} → PackCall P → List ℕ
pack_order {P} c = P.order c.arguments

abbrev pub set_in : {P : PackKind} → PackCall P → ParameterSet
set_in {P} c = P.set c.arguments

abbrev pub pack_call_refusal : {P : PackKind} → PackCall P → Option P.Refused
pack_call_refusal {P} c = P.refusal c.given c.arguments

-- the sync bit after it: the one it returned, or after a refusal the one it was given, which its holder keeps
abbrev pub sync_after : {F : Type 0} → Bool → Result Bool F → Bool
sync_after given (Ok next) = next
sync_after given (Err f) = given

abbrev pub pack_left : {P : PackKind} → PackCall P → Bool
pack_left c = sync_after c.given c.answer

-- the seven bytes in front of its output
abbrev pub sent : {P : PackKind} → PackCall P → List ℕ
sent c = take 7 c.output

-- what is compared of it: the seven bytes or the number, and the sync bit after it
abbrev pub pack_answer_of : {F : Type 0} → (F → ℕ) → Result Bool F → List ℕ → Answer (List ℕ)
pack_answer_of number (Ok next) bytes = done bytes
pack_answer_of number (Err f) bytes = refused (number f)

abbrev pub pack_outcome : {P : PackKind} → PackCall P → Outcome (List ℕ) Bool
pack_outcome {P} c = record { answer = pack_answer_of P.number c.answer (sent c); state = pack_left c }

-- a receiving call of a kind, by value or in place: its arguments, the record it was given, its answer, and the record that it returned or left
pub record ReceiveCall (R : ReceiveKind) : Type 0 where
  pub arguments : R.Arguments
  pub given : Record
  pub answer : Result FrameResult R.Refused
  pub left : Record

-- the order that it is lent, the frame that it gets, and what refuses it
abbrev pub receive_order : {R : ReceiveKind} → ReceiveCall R → List ℕ
receive_order {R} c = R.order c.arguments

abbrev pub frame_in : {R : ReceiveKind} → ReceiveCall R → List ℕ
frame_in {R} c = R.frame c.arguments

abbrev pub receive_call_refusal : {R : ReceiveKind} → ReceiveCall R → Option R.Refused
receive_call_refusal {R} c = R.refusal c.given c.arguments

-- what is compared of it: every part of the result or the number, and the record after it
abbrev pub receive_outcome : {R : ReceiveKind} → ReceiveCall R → Outcome FrameResult Record
receive_outcome {R} c = record { answer = answer_by R.number c.answer; state = c.left }

-- what all lent bytes of a packing call hold afterwards: those past the seventh as before, after a refusal all
abbrev pub lent_after : Answer (List ℕ) → List ℕ → List ℕ
lent_after (done bytes) lent = bytes ++ drop 7 lent
lent_after (refused n) lent = lent

-- a call does from the state it was given what the model does from there
module _ {P : PackKind} (c : PackCall P) where
  pub record PackStep : Type 0 where
    pub outcome : pack_outcome c ≡ pack_model P c.given c.arguments
    pub output : c.output ≡ lent_after (pack_outcome c).answer (P.lent c.arguments)

module _ {R : ReceiveKind} (c : ReceiveCall R) where
  abbrev pub ReceiveStep : Type 0
  ReceiveStep = receive_outcome c ≡ receive_model R c.given c.arguments

-- a list of calls from a state: each keeps its contract, and each later one is given the state that the one before it returned or left
abbrev pub Run : {C S : Type 0} → (C → S) → (C → S) → (C → Type 0) → S → List C → Type 0
Run given left Keeps s [] = Unit
Run given left Keeps s (c ∷ cs) = (given c ≡ s) × Keeps c × Run given left Keeps (left c) cs

abbrev pub PackRun : {P : PackKind} → (PackCall P → Type 0) → Bool → List (PackCall P) → Type 0
PackRun Keeps = Run (λ c. c.given) pack_left Keeps

abbrev pub ReceiveRun : {R : ReceiveKind} → (ReceiveCall R → Type 0) → Record → List (ReceiveCall R) → Type 0
ReceiveRun Keeps = Run (λ c. c.given) (λ c. c.left) Keeps

-- the calls that are not refused
abbrev pub keep_unless : {C F : Type 0} → Option F → C → List C → List C
keep_unless None c cs = c ∷ cs
keep_unless (Some f) c cs = cs

abbrev pub unrefused : {C F : Type 0} → (C → Option F) → List C → List C
unrefused refusal [] = []
unrefused refusal (c ∷ cs) = keep_unless (refusal c) c (unrefused refusal cs)

-- the channel: of frame k, in the order packed, the places that `flips k` names among 0 to 53 are changed, and nothing else
abbrev pub channel : (ℕ → ℕ → Bool) → List (List ℕ) → List (List ℕ)
channel flips [] = []
channel flips (bytes ∷ more) = through (flips 0) bytes ∷ channel (λ k. flips (suc k)) more
