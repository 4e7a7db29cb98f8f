-- What a receiving call owes by what was taken from the frame: its refusal, or its logical bits in one number.
-- Assumes nothing.
use mathlib.Core.Path.{◌≡◌, sym, ap, ap₂, ◌∙◌}
use mathlib.Core.Bool.{Bool}
use mathlib.Core.List.{List}
use Prim.Native.Nat.{ℕ, ◌/◌, ◌%◌, ◌<◌}
use native.Mathlib.Omega.{arith}
use lib.Dec.{eqb, lit<}
use Rattle.std.specs.Prelude.{Option, Some, Ok, Err}
use Rattle.refusal.specs.Refusals.{first_refusal}
use Rattle.refusal.specs.declared.Refusal.{Refusal}
use Rattle.bits.specs.Bits.{carried}
use Rattle.bits.proofs.Digits.{bits_at}
use Rattle.bits.proofs.Numbers.{carried_back}
use Rattle.order.specs.Order.{logical_bit, frame_table}
use Rattle.order.specs.Taking.{bits_number, bits_answer}
use Rattle.order.proofs.Answers.{bits_taken, bits_refused}
use Rattle.reading.specs.Reading.{read}
use Rattle.reading.specs.declared.Accepted.{Accepted}
use Rattle.reading.proofs.Extent.{read_ext}
use Rattle.receiver.specs.Steps.{step_unless}
use Rattle.receiver.specs.Receiving.{record_table, receive}
use Rattle.receiver.proofs.Refusals.{passes, frame_refused, receive_by}
use Rattle.records.specs.declared.Record.{Record}

-- the last bit of a number is its remainder
pub sync_is : (n : ℕ) → eqb (n % 2) 1 ≡ carried 54 n 53
sync_is n =
    let e : n / 1 % 2 ≡ n % 2 = omega arith in
    sym (bits_at 54 53 n (lit< tt) ∙ ap (λ (x : ℕ). eqb x 1) e)

module _ (ord bytes : List ℕ) where
  -- the logical bits that are carried in the number taken
  pub taken_bit : (n j : ℕ) → n ≡ bits_number ord bytes → j < 54 → carried 54 n j ≡ logical_bit ord bytes j
  taken_bit n j e h = carried_back 54 (logical_bit ord bytes) n j e h

module _ (ord : List ℕ) (r : Record) (bytes : List ℕ) where
  -- a frame that is refused
  pub frame_owes : (f : Refusal) → bits_answer ord bytes ≡ Err f → record { answer = Err f; next = r } ≡ receive ord r bytes
  frame_owes f e = sym (receive_by ord r bytes (Some f) (frame_refused ord r bytes f (bits_refused ord bytes f e)))

  -- one that is taken: a step, unless the record is refused
  pub bits_owe : (n : ℕ) → bits_answer ord bytes ≡ Ok n
      → step_unless (first_refusal (record_table r)) r (eqb (n % 2) 1) (read (carried 54 n)) ≡ receive ord r bytes
  bits_owe n e =
      let t = bits_taken ord bytes n e in
      let same : (j : ℕ) → j < 54 → carried 54 n j ≡ logical_bit ord bytes j = λ j h. taken_bit ord bytes n j t.1 h in
      ap₂ (λ (s : Bool) (x : Option Accepted). step_unless (first_refusal (record_table r)) r s x) (sync_is n ∙ same 53 (lit< tt))
      (read_ext (carried 54 n) (logical_bit ord bytes) (λ j h. same j (omega arith)))
      ∙ sym (receive_by ord r bytes (first_refusal (record_table r)) (passes (frame_table ord bytes) (record_table r) t.0))
