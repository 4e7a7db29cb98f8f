-- Worked out by hand: the number of repeats in a record (document 02, T-06), by example 6's frame, which is accepted, and by example 7's, a repeat.
use Rattle.std.specs.Prelude.{ℕ, ◌≡◌, Bool, true, false, List, [], ◌∷◌, ◌++◌, replicate, None, Some, Ok, Err}
use Rattle.refusal.specs.declared.Refusal.TheVariants.{InvalidRecord}
use Rattle.order.specs.Order.{default_order}
use Rattle.records.specs.Records.{accepted_kind, repeated_kind}
use Rattle.records.specs.OldRecords.{taken_over}
use Rattle.records.specs.declared.FrameKind.{FrameKind}
use Rattle.records.specs.declared.OldRecord.{OldRecord}
use Rattle.records.specs.declared.Record.{Record}
use Rattle.receiver.specs.Receiving.{receive_refusal, receive}
use Rattle.calls.specs.Model.{answer_of}
use Rattle.examples.specs.Examples.{ninety_bytes, changed, mute_in}
use Rattle.examples.specs.WorkedExamples.{voiced}

-- kinds, oldest first: eight repeats and then eight accepted frames; and accepted frames and then repeats, so many of each
abbrev pub oldest_repeats : List FrameKind
oldest_repeats = replicate 8 repeated_kind ++ replicate 8 accepted_kind

abbrev pub latest_repeats : ℕ → ℕ → List FrameKind
latest_repeats n m = replicate n accepted_kind ++ replicate m repeated_kind

-- a record with a number of repeats, true or not
abbrev pub holding : List FrameKind → ℕ → Record
holding kinds n = record { last = voiced 2; g2 = 11; kinds = kinds; repeats = n }

-- the number after a frame, and whether its result is mute
abbrev pub number_after : Record → List ℕ → ℕ
number_after r bytes = (receive default_order r bytes).next.repeats

abbrev pub mute_of : Record → List ℕ → Bool
mute_of r bytes = mute_in (answer_of (receive default_order r bytes).answer)

-- one goes out with an accepted frame; one out and one in; one in only; none
pub record RepeatCounts : Type 0 where
  pub out : number_after (holding oldest_repeats 8) ninety_bytes ≡ 7
  pub out_mute : mute_of (holding oldest_repeats 8) ninety_bytes ≡ false
  pub out_and_in : number_after (holding oldest_repeats 8) (changed (0 ∷ 7 ∷ [])) ≡ 8
  pub out_and_in_mute : mute_of (holding oldest_repeats 8) (changed (0 ∷ 7 ∷ [])) ≡ true
  pub only_in : number_after (holding (latest_repeats 9 7) 7) (changed (0 ∷ 7 ∷ [])) ≡ 8
  pub only_in_mute : mute_of (holding (latest_repeats 9 7) 7) (changed (0 ∷ 7 ∷ [])) ≡ true
  pub neither : number_after (holding (latest_repeats 8 8) 8) ninety_bytes ≡ 8
  pub neither_mute : mute_of (holding (latest_repeats 8 8) 8) ninety_bytes ≡ true
  -- all sixteen, and one more
  pub all : number_after (holding (latest_repeats 0 16) 16) (changed (0 ∷ 7 ∷ [])) ≡ 16
  -- a number that is not true
  pub one_less : receive_refusal default_order (holding oldest_repeats 7) ninety_bytes ≡ Some InvalidRecord
  pub one_more : receive_refusal default_order (holding oldest_repeats 9) ninety_bytes ≡ Some InvalidRecord
  pub none : receive_refusal default_order (holding oldest_repeats 0) ninety_bytes ≡ Some InvalidRecord
  pub sixteen_more : receive_refusal default_order (holding oldest_repeats 24) ninety_bytes ≡ Some InvalidRecord
  pub right : receive_refusal default_order (holding oldest_repeats 8) ninety_bytes ≡ None

-- a record of the old kind, by its last set's bandpass bits and its last G2
abbrev pub old_of : ℕ → ℕ → OldRecord
old_of bandpass g2 = record { last = voiced bandpass; g2 = g2; kinds = oldest_repeats }

-- taken over; the highest G2, with bandpass bits that a sender does not send; a G2 and a set out of range
pub record TakenOverExamples : Type 0 where
  pub taken : taken_over (old_of 2 11) ≡ record { answer = Ok tt; next = holding oldest_repeats 8 }
  pub highest : (taken_over (old_of 1 31)).answer ≡ Ok tt
  pub past : taken_over (old_of 2 32) ≡ record { answer = Err InvalidRecord; next = record { last = voiced 2; g2 = 32; kinds = oldest_repeats; repeats = 8 } }
  pub set_past : (taken_over (old_of 16 11)).answer ≡ Err InvalidRecord
