-- Erased frames one after the other: every one is a repeat, so whether it is mute depends on the kinds before the first alone.
-- Assumes nothing.
use mathlib.Core.Path.{◌≡◌, refl, ap, ap₂, ◌∙◌}
use mathlib.Core.Bool.{Bool}
use mathlib.Core.List.{List, [], ◌∷◌, map}
use Prim.Native.Nat.{ℕ, zero, suc}
use lib.Dec.{T}
use lib.ListN.{length}
use Rattle.pitch.specs.Pitch.{index, class_of}
use Rattle.hamming.specs.Word.{fix_of, decode}
use Rattle.order.specs.Order.{place_of, order_by, default_order, bit_at, logical_bit, through}
use Rattle.reading.specs.Reading.{read}
use Rattle.records.specs.Records.{repeated_kind, repeats_in, fresh, valid, muted}
use Rattle.receiver.specs.Next.{pushed, after_repeat}
use Rattle.receiver.specs.Steps.{repeated, step}
use Rattle.receiver.specs.Receiving.{receive}
use Rattle.records.specs.declared.FrameKind.{FrameKind}
use Rattle.records.specs.declared.Record.{Record}
use Rattle.receiver.specs.declared.FrameResult.{FrameResult}
use Rattle.receiver.proofs.Refusals.{not_refused, receive_taken}
use Rattle.records.proofs.Validity.{fresh_valid, counted_valid, valid_ranges}
use Rattle.calls.specs.Model.{Outcome, outcomes, outcome_of, receive_model, receive_kind}
use Rattle.calls.proofs.Steps.{model_is}
use Rattle.bits.specs.Lists.{Every}
use Rattle.examples.specs.Examples.{Erases, in_default, mute_in, Mutes}

-- mute after each of n repeats
abbrev mutes_from : List FrameKind → ℕ → List Bool
mutes_from kinds zero = []
mutes_from kinds (suc n) = muted (repeats_in (pushed kinds repeated_kind)) ∷ mutes_from (pushed kinds repeated_kind) n

-- an erased frame is a repeat
erased_repeats : (r : Record) (bytes : List ℕ) → T (valid r) → Erases bytes → receive default_order r bytes ≡ repeated r (logical_bit default_order bytes 53)
erased_repeats r bytes v e =
    receive_taken default_order r bytes (not_refused default_order r bytes e.taken v) ∙ ap (step r (logical_bit default_order bytes 53)) e.erased

erased_mutes : (frames : List (List ℕ)) (r : Record) → T (valid r) → Every Erases frames
    → map (λ o. mute_in o.answer) (outcomes (receive_model receive_kind) r (map in_default frames)) ≡ mutes_from r.kinds (length frames)
unfolding repeated
erased_mutes [] r v h = refl
erased_mutes (b ∷ bs) r v h =
    let e = model_is r (in_default b) ∙ ap outcome_of (erased_repeats r b v h.0) in
    let here = ap (λ (o : Outcome FrameResult Record). mute_in o.answer) e in
    let rest = ap (λ (y : Outcome FrameResult Record). map (λ o. mute_in o.answer) (outcomes (receive_model receive_kind) y.state (map in_default bs))) e in
    ap₂ (λ (m : Bool) (ms : List Bool). m ∷ ms) here
    (rest ∙ erased_mutes bs (after_repeat r) (counted_valid r.last r.g2 (pushed r.kinds repeated_kind) (valid_ranges r v)) h.1)

pub mutes : Mutes
unfolding fresh index class_of fix_of decode place_of order_by default_order bit_at through read
mutes = record { erased = record { taken = refl; erased = refl }; eight = λ frames n h. erased_mutes frames fresh fresh_valid h ∙ ap (mutes_from fresh.kinds) n }
