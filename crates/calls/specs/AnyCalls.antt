-- Receiving calls of the code without confidences and with them, mixed at will, as they are observed. Each is some call of a function of which its contract
-- holds, as in `CodeCalls` and `SoftCalls`.
use Rattle.std.specs.Prelude.{ℕ, List, Result}
use Rattle.refusal.specs.declared.Refusal.{Refusal}
use Rattle.records.specs.declared.Record.{Record}
use Rattle.receiver.specs.declared.FrameResult.{FrameResult}
use Rattle.calls.specs.Model.{Outcome, answer_of}
use Rattle.calls.specs.Calls.{Run}
use Rattle.calls.specs.CodeCalls.{receive_call, Way, CodeReceivesBy}
use Rattle.calls.specs.SoftCalls.{CodeReceivesSoft}

-- what a call is passed besides the record: an order and a frame, or an order, a frame and confidences
pub data Passed : Type 0 where
  plain : List ℕ → List ℕ → Passed
  soft : List ℕ → List ℕ → List ℕ → Passed

-- a call: what it was passed, the record it was given, its answer, and the record that it returned or left
pub record AnyCall : Type 0 where
  pub passed : Passed
  pub given : Record
  pub answer : Result FrameResult Refusal
  pub left : Record

-- what is compared of it: every part of the result or the number, and the record after it
abbrev pub any_outcome : AnyCall → Outcome FrameResult Record
any_outcome c = record { answer = answer_of c.answer; state = c.left }

-- one of the code's four, made in one of two ways
abbrev pub CodeReceivesAs : Way → Passed → Record → Result FrameResult Refusal → Record → Type 0
CodeReceivesAs way (plain order bytes) given answer left = CodeReceivesBy way (receive_call order given bytes answer left)
CodeReceivesAs way (soft order bytes confidences) given answer left =
    CodeReceivesSoft way (record { order = order; frame = bytes; confidences = confidences; given = given; answer = answer; left = left })

abbrev pub CodeReceivesAny : AnyCall → Type 0
CodeReceivesAny c = (way : Way) × CodeReceivesAs way c.passed c.given c.answer c.left

-- a list of them from a record
abbrev pub AnyRun : Record → List AnyCall → Type 0
AnyRun = Run (λ c. c.given) (λ c. c.left) CodeReceivesAny
