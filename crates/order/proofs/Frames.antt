-- Frames in any order: what is placed is read back, a frame with clear padding is that of its logical bits,
-- and flips of places are flips of logical bits.
-- Assumes nothing.
use mathlib.Core.Path.{◌≡◌, refl, sym, ap, ap₂, ◌∙◌}
use mathlib.Core.Bool.{Bool, true, false, cond, ◌&&◌}
use mathlib.Core.List.{List, [], ◌∷◌}
use Prim.Native.Nat.{ℕ, zero, suc, ◌+◌, ◌-◌, ◌≤◌, ◌<◌}
use native.Mathlib.Omega.{arith}
use lib.Dec.{ltb, lit<, lit≤}
use lib.ListN.{length, get_or}
use borrow.Author.Tests.{lt-ltb, le-ltb, ltb-true, ltb-false}
use Rattle.bits.specs.Bits.{◌⊻◌}
use Rattle.bits.proofs.Cut.{cut_length, cut_at}
use Rattle.order.specs.Order.{Order, place_of, placed, byte_of, frame_of, bit_at, NamedPlaces, logical_bit, padding, through}
use Rattle.order.proofs.Places.{entry_back, place_lt, place_back}
use Rattle.order.proofs.Bytes.{place_bit, bytes_ext, bytes_back}

-- what is placed below 54, and past it
pub placed_below : (ord : List ℕ) (g : ℕ → Bool) (t : ℕ) → t < 54 → placed ord g t ≡ g (get_or ord t 0)
placed_below ord g t h = rw (lt-ltb t 54 h) refl

-- so entry t names the bit at place t
pub named_places : NamedPlaces
unfolding frame_of
named_places ord g t h = place_bit (placed ord g) t (omega arith) ∙ placed_below ord g t h

placed_past : (ord : List ℕ) (g : ℕ → Bool) (t : ℕ) → 54 ≤ t → placed ord g t ≡ false
placed_past ord g t h = rw (le-ltb t 54 h) refl

module _ (ord : List ℕ) (o : Order ord) (g : ℕ → Bool) where
  -- logical bit j of the frame of g is g at j
  pub sent_bit : (j : ℕ) → j < 54 → logical_bit ord (frame_of ord g) j ≡ g j
  unfolding frame_of
  sent_bit j h =
      place_bit (placed ord g) (place_of ord j) (omega (arith, place_lt ord o j h))
      ∙ placed_below ord g (place_of ord j) (place_lt ord o j h)
      ∙ ap g (entry_back ord o j h)

  -- after a channel it is changed where its place is
  pub received_bit : (fl : ℕ → Bool) (j : ℕ) → j < 54 → logical_bit ord (through fl (frame_of ord g)) j ≡ g j ⊻ fl (place_of ord j)
  unfolding through
  received_bit fl j h =
      place_bit (λ t. bit_at (frame_of ord g) t ⊻ (ltb t 54 && fl t)) (place_of ord j) (omega (arith, place_lt ord o j h))
      ∙ ap₂ (λ (x y : Bool). x ⊻ (y && fl (place_of ord j))) (sent_bit j h) (lt-ltb (place_of ord j) 54 (place_lt ord o j h))

module _ (ord : List ℕ) (g : ℕ → Bool) where
  -- a frame has seven bytes
  pub frame_length : length (frame_of ord g) ≡ 7
  unfolding frame_of
  frame_length = cut_length (byte_of (placed ord g)) 0 7

  -- its padding is clear
  pub frame_padding : padding (frame_of ord g) ≡ false ∷ false ∷ []
  unfolding frame_of
  frame_padding =
      ap₂ (λ (x y : Bool). x ∷ y ∷ [])
      (place_bit (placed ord g) 54 (lit< tt) ∙ placed_past ord g 54 (lit≤ tt))
      (place_bit (placed ord g) 55 (lit< tt) ∙ placed_past ord g 55 (lit≤ tt))

-- a frame with clear padding is the frame of its logical bits
pub frame_back : (ord : List ℕ) → Order ord → (bytes : List ℕ) → length bytes ≡ 7 → ((i : ℕ) → i < 7 → get_or bytes i 0 < 256)
    → padding bytes ≡ false ∷ false ∷ []
    → frame_of ord (logical_bit ord bytes) ≡ bytes
unfolding frame_of
frame_back ord o bytes e h p = bytes_ext (placed ord (logical_bit ord bytes)) (bit_at bytes) same ∙ bytes_back bytes e h
  where
    clear : (k : ℕ) → get_or (false ∷ false ∷ []) k false ≡ false
    clear zero = refl
    clear (suc zero) = refl
    clear (suc (suc k)) = refl

    past : (t : ℕ) → 54 ≤ t → t < 56 → false ≡ bit_at bytes t
    past t a b =
        let k : ℕ = t - 54 in
        let q : t ≡ 54 + k = omega arith in
        sym (ap (bit_at bytes) q ∙ sym (cut_at false (bit_at bytes) 54 2 k (omega arith)) ∙ ap (λ (l : List Bool). get_or l k false) p ∙ clear k)

    same : (t : ℕ) → t < 56 → placed ord (logical_bit ord bytes) t ≡ bit_at bytes t
    same t l = go (ltb t 54) refl
      where
        go : (b : Bool) → ltb t 54 ≡ b → cond b (bit_at bytes (place_of ord (get_or ord t 0))) false ≡ bit_at bytes t
        go true q = ap (bit_at bytes) (place_back ord o t (ltb-true t 54 q))
        go false q = past t (ltb-false t 54 q) l
