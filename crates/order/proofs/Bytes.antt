-- Bytes and places are inverse, and the padding is the two low bits of the last byte.
-- Assumes nothing.
use mathlib.Core.Path.{◌≡◌, refl, sym, ap, ◌∙◌}
use mathlib.Core.Bool.{Bool, false}
use mathlib.Core.List.{List}
use Prim.Native.Nat.{ℕ, ◌+◌, ◌*◌, ◌/◌, ◌%◌, ◌<◌}
use native.Mathlib.Nat.{add-zero}
use native.Mathlib.Omega.{arith}
use lib.ListN.{length, get_or}
use Rattle.bits.specs.Bits.{value, bits, cut}
use Rattle.bits.proofs.Cut.{cut_at, cut_ext, cut_get_or, cut_shift}
use Rattle.bits.proofs.Digits.{value_bits, value_bits_mod, bits_value, bits_length}
use Rattle.order.specs.Order.{byte_of, bytes_of, bit_at, padding}

-- the bit at place t of the bytes of a sequence is the sequence at t
pub place_bit : (h : ℕ → Bool) (t : ℕ) → t < 56 → bit_at (bytes_of h) t ≡ h t
unfolding bit_at
place_bit h t l =
    ap (λ (m : ℕ). get_or (bits 8 m) (t % 8) false) (cut_at 0 (byte_of h) 0 7 (t / 8) (omega arith))
    ∙ ap (λ (m : List Bool). get_or m (t % 8) false) (bits_value 8 (cut h (8 * (0 + t / 8)) 8) refl)
    ∙ cut_at false h (8 * (0 + t / 8)) 8 (t % 8) (omega arith)
    ∙ ap h (omega arith)

-- sequences that agree on 56 places have the same bytes
pub bytes_ext : (g h : ℕ → Bool) → ((t : ℕ) → t < 56 → g t ≡ h t) → bytes_of g ≡ bytes_of h
bytes_ext g h e = cut_ext (byte_of g) (byte_of h) 0 7 (λ i a b. ap value (cut_ext g h (8 * i) 8 (λ t c d. e t (omega arith))))

-- the eight places of a byte stand for it
pub byte_back : (bytes : List ℕ) (i : ℕ) → get_or bytes i 0 < 256 → byte_of (bit_at bytes) i ≡ get_or bytes i 0
unfolding bit_at
byte_back bytes i h =
    ap value (cut_ext (bit_at bytes) (λ t. get_or (bits 8 (get_or bytes i 0)) (t % 8) false) (8 * i) 8
    (λ t a b. ap (λ (k : ℕ). get_or (bits 8 (get_or bytes k 0)) (t % 8) false) (omega arith)))
    ∙ ap value (whole (bits 8 (get_or bytes i 0)) (bits_length 8 (get_or bytes i 0)))
    ∙ value_bits 8 (get_or bytes i 0) h
  where
    whole : (l : List Bool) → length l ≡ 8 → cut (λ t. get_or l (t % 8) false) (8 * i) 8 ≡ l
    whole l e =
        ap (λ (k : ℕ). cut (λ t. get_or l (t % 8) false) k 8) (sym (add-zero (8 * i)))
        ∙ cut_shift (λ t. get_or l (t % 8) false) (8 * i) 0 8
        ∙ cut_ext (λ j. get_or l ((8 * i + j) % 8) false) (λ j. get_or l j false) 0 8 (λ j a b. ap (λ (k : ℕ). get_or l k false) (omega arith))
        ∙ ap (cut (λ j. get_or l j false) 0) (sym e)
        ∙ cut_get_or false l

-- seven bytes are those of their places
pub bytes_back : (bytes : List ℕ) → length bytes ≡ 7 → ((i : ℕ) → i < 7 → get_or bytes i 0 < 256) → bytes_of (bit_at bytes) ≡ bytes
bytes_back bytes e h =
    cut_ext (byte_of (bit_at bytes)) (λ i. get_or bytes i 0) 0 7 (λ i a b. byte_back bytes i (h i (omega arith)))
    ∙ ap (cut (λ i. get_or bytes i 0) 0) (sym e)
    ∙ cut_get_or 0 bytes

-- the padding of seven bytes stands for the remainder of the last one by 4
pub padding_is : (bytes : List ℕ) → value (padding bytes) ≡ get_or bytes 6 0 % 4
unfolding bit_at
padding_is bytes = value_bits_mod 2 (get_or bytes 6 0)
