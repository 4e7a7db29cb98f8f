-- The sync bit goes to the result and nowhere else; and there are frames that differ in it alone.
-- Assumes nothing.
use mathlib.Core.Path.{◌≡◌, refl, sym, ap, ◌∙◌}
use mathlib.Core.Bool.{Bool}
use mathlib.Core.List.{List}
use Prim.Native.Nat.{ℕ, ◌<◌}
use Rattle.std.specs.Prelude.{Option, None, Some}
use native.Mathlib.Omega.{arith}
use lib.Dec.{T}
use Rattle.order.specs.Order.{Order, frame_of, logical_bit}
use Rattle.order.proofs.Frames.{sent_bit}
use Rattle.order.proofs.Refusals.{packed_taken}
use Rattle.reading.specs.Reading.{read}
use Rattle.reading.specs.declared.Accepted.{Accepted}
use Rattle.reading.proofs.Extent.{read_ext}
use Rattle.records.specs.Records.{valid}
use Rattle.records.specs.declared.Record.{Record}
use Rattle.receiver.specs.Steps.{accepted, repeated, step}
use Rattle.receiver.specs.Receiving.{receive}
use Rattle.receiver.specs.Sync.{with_sync, SyncDiffers, SyncAlone}
use Rattle.receiver.specs.declared.Received.{Received}
use Rattle.receiver.proofs.Refusals.{not_refused, receive_taken}

step_sync : (r : Record) (s t : Bool) (x : Option Accepted) → ((step r t x).answer ≡ with_sync t (step r s x).answer) × ((step r t x).next ≡ (step r s x).next)
unfolding accepted repeated
step_sync r s t (Some x) = (refl, refl)
step_sync r s t None = (refl, refl)

-- frames that differ in the sync bit alone, in any order of the bits
pub sync_alone : (ord : List ℕ) (r : Record) (bytes other : List ℕ) → SyncDiffers ord r bytes other → SyncAlone ord r bytes other
sync_alone ord r bytes other d =
    let same : read (logical_bit ord bytes) ≡ read (logical_bit ord other) = read_ext (logical_bit ord bytes) (logical_bit ord other) d.same in
    let there : receive ord r other ≡ step r (logical_bit ord other 53) (read (logical_bit ord bytes)) =
    receive_taken ord r other d.other_taken ∙ ap (step r (logical_bit ord other 53)) (sym same) in
    let here = receive_taken ord r bytes d.taken in
    let moved = step_sync r (logical_bit ord bytes 53) (logical_bit ord other 53) (read (logical_bit ord bytes)) in
    record {
      answer = ap (λ (x : Received). x.answer) there ∙ moved.0 ∙ ap (λ (x : Received). with_sync (logical_bit ord other 53) x.answer) (sym here);
      next = ap (λ (x : Received). x.next) there ∙ moved.1 ∙ ap (λ (x : Received). x.next) (sym here);
    }

-- what the sentence is about, from below: in any order, the frames of bits that are the same up to the sync bit, with a valid record
pub sync_differs : (ord : List ℕ) → Order ord → (r : Record) → T (valid r) → (g h : ℕ → Bool) → ((j : ℕ) → j < 53 → g j ≡ h j)
    → SyncDiffers ord r (frame_of ord g) (frame_of ord h)
sync_differs ord o r v g h same = record {
  taken = not_refused ord r (frame_of ord g) (packed_taken ord o g) v;
  other_taken = not_refused ord r (frame_of ord h) (packed_taken ord o h) v;
  same = λ j b. sent_bit ord o g j (omega arith) ∙ same j b ∙ sym (sent_bit ord o h j (omega arith));
}
