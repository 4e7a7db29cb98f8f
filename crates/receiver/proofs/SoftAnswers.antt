-- What a receiving call with confidences owes by what was taken from the frame and its places.
-- Assumes nothing.
use mathlib.Core.Path.{◌≡◌, refl, sym, ap, ap₂, ◌∙◌}
use mathlib.Core.Bool.{Bool}
use mathlib.Core.List.{List}
use Prim.Native.Nat.{ℕ, ◌%◌, ◌<◌}
use native.Mathlib.Nat.{zero-add}
use native.Mathlib.Omega.{arith}
use lib.Dec.{eqb, lit<}
use lib.ListN.{get_or}
use Rattle.std.specs.Prelude.{Option, None, Some, Ok, Err}
use Rattle.refusal.specs.Refusals.{first_refusal, unless}
use Rattle.refusal.specs.declared.Refusal.{Refusal}
use Rattle.bits.specs.Bits.{carried}
use Rattle.bits.proofs.Cut.{cut_at}
use Rattle.order.specs.Order.{logical_bit}
use Rattle.order.specs.SoftTaking.{confidence_of, taken_bits, soft_bits}
use Rattle.order.specs.declared.SoftBits.{SoftBits}
use Rattle.reading.specs.SoftReading.{soft_read}
use Rattle.reading.specs.declared.Accepted.{Accepted}
use Rattle.reading.proofs.SoftExtent.{soft_ext}
use Rattle.records.specs.declared.Record.{Record}
use Rattle.receiver.specs.Steps.{step_unless}
use Rattle.receiver.specs.Receiving.{record_table}
use Rattle.receiver.specs.SoftReceiving.{soft_receive}
use Rattle.receiver.proofs.Answers.{sync_is, taken_bit}
use Rattle.receiver.proofs.SoftRefusals.{taken_refusal, taking_refused, taking_passes, soft_by}

module _ (ord : List ℕ) (r : Record) (bytes confidences : List ℕ) where
  -- what was taken is the frame's bits and their confidences, where neither is refused
  soft_taken_is : (x : SoftBits) → soft_bits ord bytes confidences ≡ Ok x → (taken_refusal ord r bytes confidences ≡ None) × (x ≡ taken_bits ord bytes confidences)
  unfolding soft_bits
  soft_taken_is x e = go (taken_refusal ord r bytes confidences) refl e
    where
      go : (m : Option Refusal) → taken_refusal ord r bytes confidences ≡ m → unless m (taken_bits ord bytes confidences) ≡ Ok x
          → (taken_refusal ord r bytes confidences ≡ None) × (x ≡ taken_bits ord bytes confidences)
      go None f e = (f, cc)
      go (Some g) f e = (cc, cc)

  -- what was refused is what refuses one of them
  soft_refused_is : (f : Refusal) → soft_bits ord bytes confidences ≡ Err f → taken_refusal ord r bytes confidences ≡ Some f
  unfolding soft_bits
  soft_refused_is h e = go (taken_refusal ord r bytes confidences) refl e
    where
      go : (m : Option Refusal) → taken_refusal ord r bytes confidences ≡ m → unless m (taken_bits ord bytes confidences) ≡ Err h
          → taken_refusal ord r bytes confidences ≡ Some h
      go None f e = cc
      go (Some g) f e = cc

  -- a frame or confidences that are refused
  pub taking_owes : (f : Refusal) → soft_bits ord bytes confidences ≡ Err f → record { answer = Err f; next = r } ≡ soft_receive ord r bytes confidences
  taking_owes f e = sym (soft_by ord r bytes confidences (Some f) (taking_refused ord r bytes confidences f (soft_refused_is f e)))

  -- both taken: a step, unless the record is refused
  pub bits_owe : (x : SoftBits) → soft_bits ord bytes confidences ≡ Ok x
      → step_unless (first_refusal (record_table r)) r (eqb (x.bits % 2) 1) (soft_read (carried 54 x.bits) (λ j. get_or x.confidences j 0)) ≡ soft_receive ord r bytes confidences
  bits_owe x e =
      let t = soft_taken_is x e in
      let same : (j : ℕ) → j < 54 → carried 54 x.bits j ≡ logical_bit ord bytes j = λ j h. taken_bit ord bytes x.bits j (ap (λ (y : SoftBits). y.bits) t.1) h in
      let confident : (j : ℕ) → j < 28 → get_or x.confidences j 0 ≡ confidence_of ord confidences j =
      λ j h. ap (λ (y : SoftBits). get_or y.confidences j 0) t.1 ∙ cut_at 0 (confidence_of ord confidences) 0 54 j (omega arith) ∙ ap (confidence_of ord confidences) (zero-add j) in
      ap₂ (λ (s : Bool) (y : Option Accepted). step_unless (first_refusal (record_table r)) r s y) (sync_is x.bits ∙ same 53 (lit< tt))
      (soft_ext (carried 54 x.bits) (logical_bit ord bytes) (λ j h. same j (omega arith)) (λ j. get_or x.confidences j 0) (confidence_of ord confidences) confident)
      ∙ sym (soft_by ord r bytes confidences (first_refusal (record_table r)) (taking_passes ord r bytes confidences t.0))
