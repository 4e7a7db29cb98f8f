-- Which frames are refused: never one packed in an order, whatever a channel does to it, and only those that are not the frame of their own logical bits.
-- Assumes nothing.
use mathlib.Core.Path.{◌≡◌, refl, sym, ap₂, ◌∙◌}
use mathlib.Core.Bool.{Bool, true, false, not, ◌&&◌}
use mathlib.Core.List.{List, [], ◌∷◌}
use Prim.Native.Nat.{ℕ, ◌<◌}
use lib.Dec.{eqb, ltb, lit<}
use lib.ListN.{length, get_or}
use borrow.Author.Tests.{eq-eqb, eqb-true}
use Rattle.bits.specs.Bits.{◌⊻◌, ones}
use Rattle.std.specs.Prelude.{None}
use Rattle.std.proofs.lemmas.Option.{none-some}
use Rattle.refusal.specs.Refusals.{first_refusal}
use Rattle.refusal.specs.declared.Refusal.TheVariants.{FrameLength, PaddingBits, InvalidOrder}
use Rattle.bits.proofs.Cut.{cut_length}
use Rattle.bits.proofs.Tests.{T_true, true_T}
use Rattle.order.specs.Order.{Order, is_order, byte_of, frame_of, bit_at, logical_bit, padding, frame_refusal, through}
use Rattle.order.proofs.Orders.{is_order_lem, is_order_only}
use Rattle.order.proofs.Bytes.{place_bit}
use Rattle.order.proofs.Frames.{frame_length, frame_padding, frame_back}

-- a table's rows of a frame in an order, by what they test
refusal_is : (ord bytes : List ℕ) (a b : Bool) (l : List Bool) → eqb (length bytes) 7 ≡ a → is_order ord ≡ b → padding bytes ≡ l
    → frame_refusal ord bytes ≡ first_refusal ((not a, FrameLength) ∷ (not b, InvalidOrder) ∷ (not (eqb (ones l) 0), PaddingBits) ∷ [])
refusal_is ord bytes a b l e f p i = first_refusal ((not (e i), FrameLength) ∷ (not (f i), InvalidOrder) ∷ (not (eqb (ones (p i)) 0), PaddingBits) ∷ [])

-- seven bytes with clear padding are not refused in an order
pub frame_taken : (ord : List ℕ) → Order ord → (bytes : List ℕ) → length bytes ≡ 7 → padding bytes ≡ false ∷ false ∷ [] → frame_refusal ord bytes ≡ None
frame_taken ord o bytes e p =
    refusal_is ord bytes true true (false ∷ false ∷ []) (eq-eqb (length bytes) 7 e) (true_T (is_order ord) (is_order_lem ord o)) p

-- what is known of a frame that is taken
pub record Taken (ord bytes : List ℕ) : Type 0 where
  pub size : length bytes ≡ 7
  pub order : Order ord
  pub clear : padding bytes ≡ false ∷ false ∷ []

-- no other is taken
pub frame_taken_only : (ord bytes : List ℕ) → frame_refusal ord bytes ≡ None → Taken ord bytes
frame_taken_only ord bytes r =
    go (eqb (length bytes) 7) (is_order ord) (bit_at bytes 54) (bit_at bytes 55) refl refl refl refl
  where
    go : (a b x y : Bool) → eqb (length bytes) 7 ≡ a → is_order ord ≡ b → bit_at bytes 54 ≡ x → bit_at bytes 55 ≡ y → Taken ord bytes
    go a b x y e f p q = decide a b x y e f (λ i. p i ∷ q i ∷ []) (sym (refusal_is ord bytes a b (x ∷ y ∷ []) e f (λ i. p i ∷ q i ∷ [])) ∙ r)
      where
        decide : (a b x y : Bool) → eqb (length bytes) 7 ≡ a → is_order ord ≡ b → padding bytes ≡ x ∷ y ∷ []
            → first_refusal ((not a, FrameLength) ∷ (not b, InvalidOrder) ∷ (not (eqb (ones (x ∷ y ∷ [])) 0), PaddingBits) ∷ []) ≡ None → Taken ord bytes
        decide true true false false e f p z = record { size = eqb-true (length bytes) 7 e; order = is_order_only ord (T_true (is_order ord) f); clear = p }
        decide true true true true e f p z = absurd (none-some _ (sym z))
        decide true true true false e f p z = absurd (none-some _ (sym z))
        decide true true false true e f p z = absurd (none-some _ (sym z))
        decide true false x y e f p z = absurd (none-some _ (sym z))
        decide false b x y e f p z = absurd (none-some _ (sym z))

-- a packed frame is taken
pub packed_taken : (ord : List ℕ) → Order ord → (g : ℕ → Bool) → frame_refusal ord (frame_of ord g) ≡ None
packed_taken ord o g = frame_taken ord o (frame_of ord g) (frame_length ord g) (frame_padding ord g)

-- a channel leaves seven bytes and the padding
pub through_padding : (fl : ℕ → Bool) (bytes : List ℕ) → padding (through fl bytes) ≡ padding bytes
unfolding through
through_padding fl bytes =
    let h : ℕ → Bool = λ t. bit_at bytes t ⊻ (ltb t 54 && fl t) in
    ap₂ (λ (x y : Bool). x ∷ y ∷ []) (place_bit h 54 (lit< tt)) (place_bit h 55 (lit< tt))

-- so what is handed on is taken where what was sent is
pub through_taken : (ord : List ℕ) (fl : ℕ → Bool) (bytes : List ℕ) → frame_refusal ord bytes ≡ None → frame_refusal ord (through fl bytes) ≡ None
unfolding through
through_taken ord fl bytes r =
    let t = frame_taken_only ord bytes r in
    frame_taken ord t.order (through fl bytes) (cut_length (byte_of (λ t. bit_at bytes t ⊻ (ltb t 54 && fl t))) 0 7) (through_padding fl bytes ∙ t.clear)

-- a frame that is taken is the frame of its logical bits
pub taken_frame_back : (ord bytes : List ℕ) → ((i : ℕ) → i < 7 → get_or bytes i 0 < 256) → frame_refusal ord bytes ≡ None
    → frame_of ord (logical_bit ord bytes) ≡ bytes
taken_frame_back ord bytes h r = let t = frame_taken_only ord bytes r in frame_back ord t.order bytes t.size h t.clear
