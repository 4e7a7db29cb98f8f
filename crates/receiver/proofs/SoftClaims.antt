-- What is claimed of receiving with confidences beside receiving without: where the bits are read alike, the calls give the same.
-- Assumes nothing.
use mathlib.Core.Path.{◌≡◌, refl, sym, ap, ◌∙◌}
use mathlib.Core.List.{List, [], append_assoc}
use Prim.Native.Nat.{ℕ, ◌<◌}
use Rattle.std.specs.Prelude.{Option, None, Some}
use Rattle.refusal.specs.declared.Refusal.{Refusal}
use native.Mathlib.Omega.{arith}
use Rattle.refusal.specs.Refusals.{first_refusal}
use lib.ListN.{length, replicate, length-replicate, get_or-replicate}
use borrow.Author.Tests.{eq-eqb}
use Rattle.order.specs.Order.{Order, place_of, logical_bit, frame_table}
use Rattle.order.proofs.Places.{place_lt}
use Rattle.order.proofs.Refusals.{frame_taken_only}
use Rattle.reading.specs.Reading.{read}
use Rattle.order.specs.SoftTaking.{confidence_of, confidence_table}
use Rattle.reading.specs.SoftReading.{soft_read}
use Rattle.reading.specs.SoftClaims.{SpareShown, AllEqual}
use Rattle.reading.proofs.SoftClaims.{soft_claims}
use Rattle.records.specs.declared.Record.{Record}
use Rattle.receiver.specs.Steps.{step, step_unless}
use Rattle.receiver.specs.Receiving.{record_table, receive_refusal, receive}
use Rattle.receiver.specs.SoftReceiving.{soft_refusal, soft_receive}
use Rattle.receiver.specs.SoftClaims.{SoftClaims}
use Rattle.receiver.proofs.Refusals.{not_refused_only, receive_is, receive_by, receive_taken}
use Rattle.receiver.proofs.SoftRefusals.{soft_by, soft_taken}

-- 54 confidences refuse nothing that is not refused without them
soft_refusal_is : (ord : List ℕ) (r : Record) (bytes confidences : List ℕ) → length confidences ≡ 54 → soft_refusal ord r bytes confidences ≡ receive_refusal ord r bytes
soft_refusal_is ord r bytes confidences h =
    ap first_refusal (append_assoc (frame_table ord bytes) (confidence_table confidences) (record_table r)) ∙ simp (eq-eqb (length confidences) 54 h)

-- in any order the confidences of 54 equal ones are those
all_equal : (ord : List ℕ) → Order ord → (k : ℕ) → 0 < k → AllEqual k (confidence_of ord (replicate 54 k))
all_equal ord o k h = record { above = h; equal = λ j b. get_or-replicate 54 (place_of ord j) k 0 (place_lt ord o j (omega arith)) }

module _ (ord : List ℕ) (r : Record) (bytes : List ℕ) where
  -- bits that are read alike are received alike
  pub alike : (confidences : List ℕ) → length confidences ≡ 54 → soft_read (logical_bit ord bytes) (confidence_of ord confidences) ≡ read (logical_bit ord bytes)
      → soft_receive ord r bytes confidences ≡ receive ord r bytes
  alike confidences h e =
      soft_by ord r bytes confidences (receive_refusal ord r bytes) (soft_refusal_is ord r bytes confidences h)
      ∙ ap (step_unless (receive_refusal ord r bytes) r (logical_bit ord bytes 53)) e
      ∙ sym (receive_is ord r bytes)

  -- a call that is not refused is lent an order
  ordered : receive_refusal ord r bytes ≡ None → Order ord
  ordered e = (frame_taken_only ord bytes (not_refused_only ord r bytes e).0).order

  -- 54 equal confidences above 0; where the call is refused, both ways refuse it alike
  equal_alike : (k : ℕ) → 0 < k → (SpareShown (logical_bit ord bytes) → ⊥) → soft_receive ord r bytes (replicate 54 k) ≡ receive ord r bytes
  equal_alike k h s = go (receive_refusal ord r bytes) refl
    where
      same : soft_refusal ord r bytes (replicate 54 k) ≡ receive_refusal ord r bytes
      same = soft_refusal_is ord r bytes (replicate 54 k) (length-replicate 54 k)

      go : (n : Option Refusal) → receive_refusal ord r bytes ≡ n → soft_receive ord r bytes (replicate 54 k) ≡ receive ord r bytes
      go None e = alike (replicate 54 k) (length-replicate 54 k) ((soft_claims (logical_bit ord bytes) (confidence_of ord (replicate 54 k))).equal k (all_equal ord (ordered e) k h) s)
      go (Some f) e =
          soft_by ord r bytes (replicate 54 k) (Some f) (same ∙ e) ∙ sym (receive_by ord r bytes (Some f) e)

  -- all of it
  pub soft_received : SoftClaims ord r bytes
  soft_received = record {
    alone = λ h confidences size. alike confidences size ((soft_claims (logical_bit ord bytes) (confidence_of ord confidences)).alone h);
    tied = λ confidences e u t. soft_taken ord r bytes confidences e ∙ ap (step r (logical_bit ord bytes 53)) ((soft_claims (logical_bit ord bytes) (confidence_of ord confidences)).tied u t);
    taken = λ confidences e u s. soft_taken ord r bytes confidences e ∙ ap (step r (logical_bit ord bytes 53)) ((soft_claims (logical_bit ord bytes) (confidence_of ord confidences)).taken u s);
    equal = equal_alike;
    spare_repeated = λ s e. receive_taken ord r bytes e ∙ ap (step r (logical_bit ord bytes 53)) ((soft_claims (logical_bit ord bytes) (confidence_of ord [])).spare_erased s);
    spare_accepted = λ k h s e.
        soft_taken ord r bytes (replicate 54 k) (soft_refusal_is ord r bytes (replicate 54 k) (length-replicate 54 k) ∙ e)
        ∙ ap (step r (logical_bit ord bytes 53)) ((soft_claims (logical_bit ord bytes) (confidence_of ord (replicate 54 k))).spare_read k (all_equal ord (ordered e) k h) s);
  }
