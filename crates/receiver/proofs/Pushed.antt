-- How many kinds are repeats: at most all, and after a frame by the number before it and the kinds that go out and in.
-- Assumes nothing.
use mathlib.Core.Path.{◌≡◌, ap, ◌∙◌}
use mathlib.Core.List.{List, [], ◌∷◌, ◌++◌, map, map-append}
use Prim.Native.Nat.{ℕ, ◌+◌, ◌≤◌, ◌<◌}
use native.Mathlib.Nat.{add-zero}
use native.Mathlib.Omega.{arith}
use lib.ListN.{length, length-map, get_or}
use Rattle.bits.specs.Bits.{bit_num, ones}
use Rattle.bits.proofs.Count.{add_bit, ones_le, ones_append}
use Rattle.records.specs.Records.{accepted_kind, repeats_in}
use Rattle.records.specs.declared.FrameKind.{FrameKind}
use Rattle.receiver.specs.Next.{pushed}

-- at most as many as there are kinds
pub repeats_le : (kinds : List FrameKind) → repeats_in kinds ≤ length kinds
repeats_le kinds = omega (arith, ones_le (map (λ (kind : FrameKind). kind.repeat) kinds), length-map kinds (λ (kind : FrameKind). kind.repeat))

-- the oldest is among them
pub oldest_counted : (kinds : List FrameKind) → 0 < length kinds → bit_num (get_or kinds 0 accepted_kind).repeat ≤ repeats_in kinds
oldest_counted [] h = absurd (omega (arith, h))
oldest_counted (first ∷ kinds) h = omega (arith, add_bit first.repeat (repeats_in kinds))

-- with one kind more at the end
repeats_more : (kinds : List FrameKind) (kind : FrameKind) → repeats_in (kinds ++ kind ∷ []) ≡ repeats_in kinds + bit_num kind.repeat
repeats_more kinds kind =
    ap ones (map-append (λ (x : FrameKind). x.repeat) kinds (kind ∷ []))
    ∙ ones_append (map (λ (x : FrameKind). x.repeat) kinds) (kind.repeat ∷ [])
    ∙ ap (λ (n : ℕ). repeats_in kinds + n) (add_bit kind.repeat 0 ∙ add-zero (bit_num kind.repeat))

-- after a frame: one less where a repeat goes out, one more where one goes in
pub repeats_pushed : (kinds : List FrameKind) → 0 < length kinds → (kind : FrameKind)
    → repeats_in (pushed kinds kind) + bit_num (get_or kinds 0 accepted_kind).repeat ≡ repeats_in kinds + bit_num kind.repeat
repeats_pushed [] h kind = absurd (omega (arith, h))
repeats_pushed (first ∷ kinds) h kind = omega (arith, add_bit first.repeat (repeats_in kinds), repeats_more kinds kind)
