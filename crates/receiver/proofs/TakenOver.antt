-- A record that was taken over leads to what the old record does: it is valid where that is, so the refusals are the same, and a step keeps them in step.
-- Assumes nothing.
use mathlib.Core.Path.{◌≡◌, refl, ap, ◌∙◌}
use mathlib.Core.Bool.{Bool, not, ◌&&◌, and-true}
use mathlib.Core.List.{List, [], ◌∷◌, ◌++◌}
use Prim.Native.Nat.{ℕ}
use Rattle.std.specs.Prelude.{Option, None, Some}
use Rattle.refusal.specs.declared.Refusal.{Refusal}
use Rattle.refusal.specs.declared.Refusal.TheVariants.{InvalidRecord}
use lib.Dec.{eqb_refl}
use Rattle.refusal.specs.Refusals.{Table, first_refusal}
use Rattle.bits.proofs.Tests.{true_T}
use Rattle.order.specs.Order.{logical_bit, frame_table}
use Rattle.reading.specs.Reading.{read}
use Rattle.order.specs.SoftTaking.{confidence_of, confidence_table}
use Rattle.reading.specs.SoftReading.{soft_read}
use Rattle.reading.specs.declared.Accepted.{Accepted}
use Rattle.records.specs.Records.{repeats_in, valid}
use Rattle.records.specs.OldRecords.{valid_old, old_table, with_count}
use Rattle.records.specs.declared.OldRecord.{OldRecord}
use Rattle.receiver.specs.Steps.{accepted, repeated, step, step_unless}
use Rattle.receiver.specs.Receiving.{record_table}
use Rattle.receiver.specs.OldReceiving.{old_step, old_unless, old_receive, old_soft_receive}
use Rattle.receiver.proofs.Refusals.{receive_is}
use Rattle.receiver.proofs.SoftRefusals.{soft_is}
use Rattle.receiver.specs.TakenOver.{in_step, TakenOverRecord, TakenOverClaim}

module _ (old : OldRecord) where
  -- valid where the old one is, so refused where it is
  taken_valid : valid (with_count old) ≡ valid_old old
  taken_valid = ap (λ (b : Bool). valid_old old && b) (true_T _ (eqb_refl (repeats_in old.kinds))) ∙ and-true (valid_old old)

  taken_table : record_table (with_count old) ≡ old_table old
  taken_table = ap (λ (b : Bool). (not b, InvalidRecord) ∷ []) taken_valid

  pub taken_record : TakenOverRecord old
  taken_record = record { as_valid = taken_valid; as_refused = ap first_refusal taken_table }

  -- a step
  taken_step : (sync : Bool) (x : Option Accepted) → step (with_count old) sync x ≡ in_step (old_step old sync x)
  unfolding accepted repeated
  taken_step sync (Some x) = refl
  taken_step sync None = refl

  taken_unless : (n : Option Refusal) (sync : Bool) (x : Option Accepted) → step_unless n (with_count old) sync x ≡ in_step (old_unless n old sync x)
  taken_unless None sync x = taken_step sync x
  taken_unless (Some f) sync x = refl

  -- a call, by what its table has before the record and what its bits are read as
  taken_call : (before : Table → Table) (sync : Bool) (x : Option Accepted)
      → step_unless (first_refusal (before (record_table (with_count old)))) (with_count old) sync x ≡ in_step (old_unless (first_refusal (before (old_table old))) old sync x)
  taken_call before sync x =
      ap (λ (t : Table). step_unless (first_refusal (before t)) (with_count old) sync x) taken_table ∙ taken_unless (first_refusal (before (old_table old))) sync x

  pub taken_over_lem : (ord bytes : List ℕ) → TakenOverClaim ord old bytes
  unfolding old_receive old_soft_receive
  taken_over_lem ord bytes =
      let g = logical_bit ord bytes in
      record {
        plain = receive_is ord (with_count old) bytes ∙ taken_call (λ t. frame_table ord bytes ++ t) (g 53) (read g);
        soft = λ confidences. soft_is ord (with_count old) bytes confidences ∙ taken_call (λ t. (frame_table ord bytes ++ confidence_table confidences) ++ t) (g 53) (soft_read g (confidence_of ord confidences));
      }
