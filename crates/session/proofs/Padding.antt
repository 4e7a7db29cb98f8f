-- Padding bits: of a frame by its last byte, of frames one after the other, and of the frames that are not refused. Assumes nothing.
use mathlib.Core.Path.{◌≡◌, refl, sym, ap, ◌∙◌}
use mathlib.Core.Bool.{Bool, true, false, not, ◌||◌}
use mathlib.Core.List.{List, [], ◌∷◌}
use Prim.Native.Nat.{ℕ, ◌%◌}
use lib.Dec.{eqb}
use lib.ListN.{length, get_or}
use borrow.Author.Tests.{eq-eqb, eqb-true}
use Rattle.bits.specs.Bits.{ones, value}
use Rattle.std.specs.Prelude.{None}
use Rattle.std.specs.List.{list_any}
use Rattle.refusal.specs.Refusals.{first_refusal}
use Rattle.refusal.specs.declared.Refusal.TheVariants.{FrameLength, PaddingBits, InvalidOrder}
use Rattle.bits.proofs.Tests.{true_T}
use Rattle.order.specs.Order.{is_order, default_order, bit_at, frame_refusal}
use Rattle.order.proofs.Bytes.{padding_is}
use Rattle.order.proofs.Orders.{default_is_order}
use Rattle.session.specs.Writing.{is_padded, any_padded}

-- a frame has padding bits where its last byte is no multiple of 4
pub padded_is : (frame : List ℕ) → is_padded frame ≡ not (eqb (get_or frame 6 0 % 4) 0)
padded_is frame = ap not (go (bit_at frame 54) (bit_at frame 55)) ∙ ap (λ (n : ℕ). not (eqb n 0)) (padding_is frame)
  where
    go : (x y : Bool) → eqb (ones (x ∷ y ∷ [])) 0 ≡ eqb (value (x ∷ y ∷ [])) 0
    go true true = refl
    go true false = refl
    go false true = refl
    go false false = refl

-- so have frames where one has such a byte
pub any_padded_is : (fs : List (List ℕ)) → list_any (λ f. not (eqb (get_or f 6 0 % 4) 0)) fs ≡ any_padded fs
any_padded_is [] = refl
any_padded_is (f ∷ fs) = λ i. sym (padded_is f) i || any_padded_is fs i

-- what refuses a frame in the default order: its length and its padding bits
refusal_is : (f : List ℕ) (a p : Bool) → eqb (length f) 7 ≡ a → is_padded f ≡ p → frame_refusal default_order f ≡ first_refusal ((not a, FrameLength) ∷ (false, InvalidOrder) ∷ (p, PaddingBits) ∷ [])
refusal_is f a p e q i = first_refusal ((not (e i), FrameLength) ∷ (not (true_T (is_order default_order) default_is_order i), InvalidOrder) ∷ (q i, PaddingBits) ∷ [])

-- seven bytes without padding bits are not refused
pub good_is : (f : List ℕ) → length f ≡ 7 → is_padded f ≡ false → frame_refusal default_order f ≡ None
good_is f e p = refusal_is f true false (eq-eqb (length f) 7 e) p

-- no others are so
pub good_only : (f : List ℕ) → frame_refusal default_order f ≡ None → (length f ≡ 7) × (is_padded f ≡ false)
good_only f r = go (eqb (length f) 7) (is_padded f) refl refl (sym (refusal_is f (eqb (length f) 7) (is_padded f) refl refl) ∙ r)
  where
    go : (b p : Bool) → eqb (length f) 7 ≡ b → is_padded f ≡ p → first_refusal ((not b, FrameLength) ∷ (false, InvalidOrder) ∷ (p, PaddingBits) ∷ []) ≡ None
        → (length f ≡ 7) × (is_padded f ≡ false)
    go true true e q r = cc
    go true false e q r = (eqb-true (length f) 7 e, q)
    go false p e q r = cc
