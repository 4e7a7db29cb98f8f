-- A valid record stays valid: what is accepted is in range, a repeat or a refusal leaves the last set and G2, and the number of repeats is kept true.
-- Assumes nothing.
use mathlib.Core.Path.{subst⁻¹}
use mathlib.Core.Bool.{Bool}
use mathlib.Core.List.{List}
use Prim.Native.Nat.{ℕ}
use Rattle.std.specs.Prelude.{Option, None, Some}
use Rattle.refusal.specs.declared.Refusal.{Refusal}
use lib.Dec.{T}
use Rattle.order.specs.Order.{logical_bit}
use Rattle.reading.specs.Reading.{read, reading_fits}
use Rattle.order.specs.SoftTaking.{confidence_of}
use Rattle.reading.specs.SoftReading.{soft_read}
use Rattle.reading.specs.declared.Accepted.{Accepted}
use Rattle.reading.proofs.Ranges.{read_fits}
use Rattle.reading.proofs.SoftRanges.{soft_read_fits}
use Rattle.records.specs.Records.{valid}
use Rattle.records.specs.declared.Record.{Record}
use Rattle.records.proofs.Validity.{valid_count}
use Rattle.receiver.specs.Steps.{step_unless}
use Rattle.receiver.specs.Receiving.{receive_refusal, receive}
use Rattle.receiver.specs.SoftReceiving.{soft_refusal, soft_receive}
use Rattle.receiver.specs.Validity.{StaysValid}
use Rattle.receiver.specs.declared.Received.{Received}
use Rattle.receiver.proofs.Refusals.{receive_is}
use Rattle.receiver.proofs.SoftRefusals.{soft_is}
use Rattle.receiver.proofs.Results.{step_valid}

-- a step, refused or not
unless_valid : (n : Option Refusal) (r : Record) (sync : Bool) (x : Option Accepted) → T (valid r) → T (reading_fits x) → T (valid (step_unless n r sync x).next)
unless_valid None r sync x v t = step_valid r sync x v t
unless_valid (Some f) r sync x v t = v

-- receiving any bytes leaves a valid record where it was given one
pub receive_valid : (ord : List ℕ) (r : Record) (bytes : List ℕ) → T (valid r) → T (valid (receive ord r bytes).next)
receive_valid ord r bytes v =
    subst⁻¹ (λ (x : Received). T (valid x.next)) (receive_is ord r bytes)
    (unless_valid (receive_refusal ord r bytes) r (logical_bit ord bytes 53) (read (logical_bit ord bytes)) v (read_fits (logical_bit ord bytes)))

-- with confidences too
soft_valid : (ord : List ℕ) (r : Record) (bytes confidences : List ℕ) → T (valid r) → T (valid (soft_receive ord r bytes confidences).next)
soft_valid ord r bytes confidences v =
    subst⁻¹ (λ (x : Received). T (valid x.next)) (soft_is ord r bytes confidences)
    (unless_valid (soft_refusal ord r bytes confidences) r (logical_bit ord bytes 53) (soft_read (logical_bit ord bytes) (confidence_of ord confidences)) v
    (soft_read_fits (logical_bit ord bytes) (confidence_of ord confidences)))

pub stays_valid : (ord : List ℕ) (r : Record) (bytes : List ℕ) → StaysValid ord r bytes
stays_valid ord r bytes = record {
  plain = receive_valid ord r bytes;
  soft = soft_valid ord r bytes;
  number = λ v. valid_count (receive ord r bytes).next (receive_valid ord r bytes v);
  soft_number = λ confidences v. valid_count (soft_receive ord r bytes confidences).next (soft_valid ord r bytes confidences v);
}
