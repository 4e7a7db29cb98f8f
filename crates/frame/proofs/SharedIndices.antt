-- The indices that share words: L1 in A and B, G2 in C and D, G1 in D. Their bits are numbers again.
-- Assumes nothing.
use mathlib.Core.Path.{◌≡◌, refl, sym, ap, ap₂, ◌∙◌}
use mathlib.Core.List.{[], ◌∷◌}
use Prim.Native.Nat.{ℕ, ◌+◌, ◌*◌, ◌/◌, ◌%◌, ◌<◌}
use native.Mathlib.Nat.{div-one}
use native.Mathlib.Omega.{arith}
use lib.Pow.{high, low}
use Rattle.bits.specs.Bits.{bit_num, value, bit, bits}
use Rattle.bits.proofs.Value.{value_append, value_lt_at}
use Rattle.bits.proofs.Digits.{value_bits, value_bits_mod, bits_value, bit_is, take_bits}
use Rattle.frame.specs.Layout.{data_a, data_b, data_c, data_d}
use Rattle.sets.specs.declared.Indices.{Indices}

module _ (x : Indices) where
  -- A has the bits of a quotient, and so has C
  pub data_a_is : data_a x ≡ bits 4 (x.l1 / 8)
  data_a_is = take_bits 4 3 x.l1

  pub data_c_is : data_c x ≡ bits 4 (x.g2 / 2)
  data_c_is = take_bits 4 1 x.g2

  -- A and B together are L1
  pub l1_back : x.l1 < 128 → value (data_a x) * 8 + value (data_b x) ≡ x.l1
  l1_back h = sym (value_append (data_a x) (data_b x)) ∙ value_bits 7 x.l1 h

  -- the data of each word as numbers
  pub data_a_value : x.l1 < 128 → value (data_a x) ≡ x.l1 / 8
  data_a_value h = ap value data_a_is ∙ value_bits 4 (x.l1 / 8) (omega arith)

  pub data_b_value : value (data_b x) ≡ x.l1 % 8
  data_b_value = value_bits_mod 3 x.l1

  pub data_c_value : x.g2 < 32 → value (data_c x) ≡ x.g2 / 2
  data_c_value h = ap value data_c_is ∙ value_bits 4 (x.g2 / 2) (omega arith)

  pub data_d_value : x.g1 < 8 → value (data_d x) ≡ x.g2 % 2 * 8 + x.g1
  data_d_value h = ap₂ (λ (a b : ℕ). a * 8 + b) (bit_is 0 x.g2 ∙ ap (λ (k : ℕ). k % 2) (div-one x.g2)) (value_bits 3 x.g1 h)

  -- D has the bits of that number
  pub data_d_is : x.g1 < 8 → data_d x ≡ bits 4 (x.g2 % 2 * 8 + x.g1)
  data_d_is h = sym (bits_value 4 (data_d x) refl) ∙ ap (bits 4) (data_d_value h)

  -- the high bit of D is G2's lowest
  pub data_d_high : value (data_d x) / 8 ≡ bit_num (bit 0 x.g2)
  data_d_high = high (bit_num (bit 0 x.g2)) 3 (value_lt_at 3 (bits 3 x.g1) refl)

  -- C with that bit is G2
  pub g2_back : x.g2 < 32 → value (data_c x) * 2 + value (data_d x) / 8 ≡ x.g2
  g2_back h =
      ap (λ (k : ℕ). value (data_c x) * 2 + k) (data_d_high ∙ omega arith)
      ∙ sym (value_append (data_c x) (bit 0 x.g2 ∷ []))
      ∙ value_bits 5 x.g2 h

  -- and the rest of D is G1
  pub g1_back : x.g1 < 8 → value (data_d x) % 8 ≡ x.g1
  g1_back h = low (bit_num (bit 0 x.g2)) 3 (value_lt_at 3 (bits 3 x.g1) refl) ∙ value_bits 3 x.g1 h
