-- What a call that takes a frame's logical bits owes in each of its cases, and that places read from one number are those of the bytes.
-- Assumes nothing.
use mathlib.Core.Path.{◌≡◌, refl, sym, ap, ◌∙◌}
use mathlib.Core.Bool.{Bool, true, false, not}
use mathlib.Core.List.{List, [], ◌∷◌}
use Prim.Native.Nat.{ℕ, ◌+◌, ◌*◌, ◌%◌, ◌<◌}
use native.Mathlib.Omega.{arith}
use lib.Dec.{eqb}
use lib.ListN.{length, get_or}
use borrow.Author.Tests.{eq-eqb, ne_eqb}
use Rattle.bits.specs.Bits.{ones, value, cut, carried}
use Rattle.std.specs.Prelude.{Option, None, Some, Ok, Err}
use Rattle.refusal.specs.Refusals.{first_refusal, unless}
use Rattle.refusal.specs.declared.Refusal.{Refusal}
use Rattle.refusal.specs.declared.Refusal.TheVariants.{FrameLength, PaddingBits, InvalidOrder}
use Rattle.bits.proofs.Cut.{cut_ext}
use Rattle.bits.proofs.Numbers.{value_more, carried_back}
use Rattle.order.specs.Order.{Order, is_order, place_of, bit_at, logical_bit, padding, frame_refusal}
use Rattle.order.specs.Taking.{bits_number, bits_answer}
use Rattle.order.proofs.Bytes.{byte_back, padding_is}
use Rattle.order.proofs.Places.{place_lt}

-- two bits have no ones where they stand for 0
ones_value_zero : (x y : Bool) → eqb (ones (x ∷ y ∷ [])) 0 ≡ eqb (value (x ∷ y ∷ [])) 0
ones_value_zero true true = refl
ones_value_zero true false = refl
ones_value_zero false true = refl
ones_value_zero false false = refl

module _ (bytes : List ℕ) where
  -- seven bytes, joined one after the other, are all 56 places
  pub bytes_all : ((i : ℕ) → get_or bytes i 0 < 256)
      → let at : ℕ → ℕ = λ i. get_or bytes i 0 in
      (((((at 0 * 256 + at 1) * 256 + at 2) * 256 + at 3) * 256 + at 4) * 256 + at 5) * 256 + at 6 ≡ value (cut (bit_at bytes) 0 56)
  bytes_all h =
      let byte : (i : ℕ) → get_or bytes i 0 ≡ value (cut (bit_at bytes) (8 * i) 8) = λ i. sym (byte_back bytes i (h i)) in
      let more = value_more (bit_at bytes) 0 in
      more 48 8 _ _ (more 40 8 _ _ (more 32 8 _ _ (more 24 8 _ _ (more 16 8 _ _ (more 8 8 _ _ (byte 0) (byte 1)) (byte 2)) (byte 3)) (byte 4)) (byte 5)) (byte 6)

  -- the padding is clear where the last byte is a multiple of 4
  padding_test : eqb (ones (padding bytes)) 0 ≡ eqb (get_or bytes 6 0 % 4) 0
  padding_test = ones_value_zero (bit_at bytes 54) (bit_at bytes 55) ∙ ap (λ (x : ℕ). eqb x 0) (padding_is bytes)

  module _ (ord : List ℕ) where
    -- the logical bits of the number that the places make are those of the bytes
    pub logical_is : Order ord → (w : ℕ) → w ≡ value (cut (bit_at bytes) 0 56)
        → cut (λ j. carried 56 w (place_of ord j)) 0 54 ≡ cut (logical_bit ord bytes) 0 54
    logical_is o w e =
        cut_ext (λ j. carried 56 w (place_of ord j)) (logical_bit ord bytes) 0 54
        (λ j a b. carried_back 56 (bit_at bytes) w (place_of ord j) e (omega (arith, place_lt ord o j (omega arith))))

    -- the answer by what the table tests
    owes : (a b c : Bool) → eqb (length bytes) 7 ≡ a → is_order ord ≡ b → eqb (get_or bytes 6 0 % 4) 0 ≡ c
        → unless (first_refusal ((not a, FrameLength) ∷ (not b, InvalidOrder) ∷ (not c, PaddingBits) ∷ [])) (bits_number ord bytes) ≡ bits_answer ord bytes
    unfolding bits_answer
    owes a b c e f p =
        let p' = padding_test ∙ p in
        sym (λ i. unless (first_refusal ((not (e i), FrameLength) ∷ (not (f i), InvalidOrder) ∷ (not (p' i), PaddingBits) ∷ [])) (bits_number ord bytes))

    -- a frame of another length
    pub length_owes : (length bytes ≡ 7 → ⊥) → Err FrameLength ≡ bits_answer ord bytes
    length_owes h = owes false (is_order ord) (eqb (get_or bytes 6 0 % 4) 0) (ne_eqb (length bytes) 7 h) refl refl

    module _ (h : length bytes ≡ 7) where
      -- a list that is no order
      pub order_owes : is_order ord ≡ false → Err InvalidOrder ≡ bits_answer ord bytes
      order_owes f = owes true false (eqb (get_or bytes 6 0 % 4) 0) (eq-eqb (length bytes) 7 h) f refl

      -- a set bit in the padding
      pub padding_owes : is_order ord ≡ true → (get_or bytes 6 0 % 4 ≡ 0 → ⊥) → Err PaddingBits ≡ bits_answer ord bytes
      padding_owes f p = owes true true false (eq-eqb (length bytes) 7 h) f (ne_eqb (get_or bytes 6 0 % 4) 0 p)

      -- the 54 bits
      pub bits_owes : is_order ord ≡ true → get_or bytes 6 0 % 4 ≡ 0 → (w : ℕ) → w ≡ bits_number ord bytes → Ok w ≡ bits_answer ord bytes
      bits_owes f p w e = ap Ok e ∙ owes true true true (eq-eqb (length bytes) 7 h) f (eq-eqb (get_or bytes 6 0 % 4) 0 p)

module _ (ord bytes : List ℕ) where
  -- bits are taken from a frame that is not refused, and are its logical bits
  pub bits_taken : (n : ℕ) → bits_answer ord bytes ≡ Ok n → (frame_refusal ord bytes ≡ None) × (n ≡ bits_number ord bytes)
  unfolding bits_answer
  bits_taken n e = go (frame_refusal ord bytes) refl e
    where
      go : (m : Option Refusal) → frame_refusal ord bytes ≡ m → unless m (bits_number ord bytes) ≡ Ok n → (frame_refusal ord bytes ≡ None) × (n ≡ bits_number ord bytes)
      go None f e = (f, cc)
      go (Some r) f e = (cc, cc)

  -- and from no other
  pub bits_refused : (r : Refusal) → bits_answer ord bytes ≡ Err r → frame_refusal ord bytes ≡ Some r
  unfolding bits_answer
  bits_refused r e = go (frame_refusal ord bytes) refl e
    where
      go : (m : Option Refusal) → frame_refusal ord bytes ≡ m → unless m (bits_number ord bytes) ≡ Err r → frame_refusal ord bytes ≡ Some r
      go None f e = cc
      go (Some g) f e = cc
