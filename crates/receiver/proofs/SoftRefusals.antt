-- Which calls with confidences are refused, and what the others give, in any order of the bits.
-- Assumes nothing.
use mathlib.Core.Path.{◌≡◌, refl, sym, ap, ap₂, ◌∙◌}
use mathlib.Core.Bool.{Bool, true, false, not}
use mathlib.Core.List.{List, [], ◌∷◌, ◌++◌, append_assoc}
use Prim.Native.Nat.{ℕ}
use lib.Dec.{T, eqb}
use lib.ListN.{length}
use borrow.Author.Tests.{eqb-true}
use Rattle.std.specs.Prelude.{Option, None, Some}
use Rattle.refusal.specs.Refusals.{first_refusal}
use Rattle.refusal.specs.declared.Refusal.{Refusal}
use Rattle.refusal.specs.declared.Refusal.TheVariants.{InvalidRecord, ConfidenceCount}
use Rattle.refusal.proofs.Refusals.{first_append, append_none}
use Rattle.order.specs.Order.{logical_bit, frame_table, frame_refusal}
use Rattle.order.specs.SoftTaking.{confidence_of, confidence_table}
use Rattle.reading.specs.SoftReading.{soft_read}
use Rattle.records.specs.Records.{valid}
use Rattle.records.specs.declared.Record.{Record}
use Rattle.receiver.specs.declared.Received.{Received}
use Rattle.receiver.specs.Steps.{step}
use Rattle.receiver.specs.Receiving.{record_table}
use Rattle.receiver.specs.SoftReceiving.{soft_refusal, soft_unless, soft_receive}
use Rattle.receiver.proofs.Refusals.{passes, record_taken_only}

-- confidences are taken where there are 54, and nowhere else
confidences_taken_only : (confidences : List ℕ) → first_refusal (confidence_table confidences) ≡ None → length confidences ≡ 54
confidences_taken_only confidences e = go (eqb (length confidences) 54) refl
  where
    go : (b : Bool) → eqb (length confidences) 54 ≡ b → length confidences ≡ 54
    go true c = eqb-true (length confidences) 54 c
    go false c = let f = ap (λ (b : Bool). first_refusal ((not b, ConfidenceCount) ∷ [])) c in cc

module _ (ord : List ℕ) (r : Record) (bytes confidences : List ℕ) where
  -- what refuses the frame or the confidences, before the record
  abbrev pub taken_refusal : Option Refusal
  taken_refusal = first_refusal (frame_table ord bytes ++ confidence_table confidences)

  -- where one of them is refused, so is the call, alike
  pub taking_refused : (f : Refusal) → taken_refusal ≡ Some f → soft_refusal ord r bytes confidences ≡ Some f
  taking_refused f e = first_append (frame_table ord bytes ++ confidence_table confidences) (record_table r) f e

  -- where neither is, the record decides
  pub taking_passes : taken_refusal ≡ None → soft_refusal ord r bytes confidences ≡ first_refusal (record_table r)
  taking_passes e = passes (frame_table ord bytes ++ confidence_table confidences) (record_table r) e

  -- where the frame is taken, the number of confidences decides, and then the record
  pub soft_decides : (b v : Bool) → frame_refusal ord bytes ≡ None → eqb (length confidences) 54 ≡ b → valid r ≡ v
      → soft_refusal ord r bytes confidences ≡ first_refusal ((not b, ConfidenceCount) ∷ (not v, InvalidRecord) ∷ [])
  soft_decides b v e c d =
      ap first_refusal (append_assoc (frame_table ord bytes) (confidence_table confidences) (record_table r))
      ∙ passes (frame_table ord bytes) (confidence_table confidences ++ record_table r) e
      ∙ ap₂ (λ (s t : Bool). first_refusal ((not s, ConfidenceCount) ∷ (not t, InvalidRecord) ∷ [])) c d

  -- no others are let through
  pub soft_taken_only : soft_refusal ord r bytes confidences ≡ None → (frame_refusal ord bytes ≡ None) × (length confidences ≡ 54) × T (valid r)
  soft_taken_only e =
      let t = append_none (frame_table ord bytes ++ confidence_table confidences) (record_table r) e in
      let f = append_none (frame_table ord bytes) (confidence_table confidences) t in
      (f, confidences_taken_only confidences (sym (passes (frame_table ord bytes) (confidence_table confidences) f) ∙ t), record_taken_only r (sym (taking_passes t) ∙ e))

  -- the definition. No other law opens it, so that a wrong one is refused here, and soon
  pub soft_is : soft_receive ord r bytes confidences ≡ soft_unless (soft_refusal ord r bytes confidences) r (logical_bit ord bytes) (confidence_of ord confidences)
  unfolding soft_receive
  soft_is = refl

  -- what a call gives by its refusal
  pub soft_by : (n : Option Refusal) → soft_refusal ord r bytes confidences ≡ n
      → soft_receive ord r bytes confidences ≡ soft_unless n r (logical_bit ord bytes) (confidence_of ord confidences)
  soft_by n e = soft_is ∙ ap (λ (m : Option Refusal). soft_unless m r (logical_bit ord bytes) (confidence_of ord confidences)) e

  -- a call that is not refused takes one step by what the bits are read as with these confidences
  pub soft_taken : soft_refusal ord r bytes confidences ≡ None
      → soft_receive ord r bytes confidences ≡ step r (logical_bit ord bytes 53) (soft_read (logical_bit ord bytes) (confidence_of ord confidences))
  soft_taken e = soft_by None e

  -- a refused call leaves the record
  pub soft_refused : (f : Refusal) → soft_refusal ord r bytes confidences ≡ Some f → (soft_receive ord r bytes confidences).next ≡ r
  soft_refused f e = ap (λ (x : Received). x.next) (soft_by (Some f) e)
