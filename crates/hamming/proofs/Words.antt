-- A word of n bits as a number: its data are the quotient, and its syndrome is an exclusive or.
-- Assumes nothing.
use mathlib.Core.Path.{◌≡◌, refl, sym, ap, ap₂, ◌∙◌, subst}
use mathlib.Core.Bool.{Bool}
use mathlib.Core.List.{List, [], ◌∷◌}
use Prim.Native.Nat.{ℕ, zero, suc, ◌+◌, ◌/◌, ◌%◌, ◌^◌, ◌≤◌, ◌<◌}
use native.Mathlib.Nat.{mod-lt, lt_of_lt_of_le}
use lib.Dec.{eqb, eqb→eq, leb, leb→le}
use lib.Bits.{bit_xor}
use lib.ListN.{length, take, drop}
use lib.Pow.{pow_pos, pow_mono, shr_lt}
use Rattle.bits.specs.Bits.{◌⊕◌, value, bits}
use Rattle.bits.proofs.Count.{⊕_length}
use Rattle.bits.proofs.Patterns.{all_patterns, all_patterns_at}
use Rattle.bits.proofs.Value.{value_lt_at}
use Rattle.bits.proofs.Digits.{value_bits, bits_value, bits_mod, take_bits, drop_bits, bits_length}
use Rattle.hamming.specs.Word.{check_bits, data_bits, parity_of, data_of, syndrome, flip_at}
use Rattle.hamming.proofs.Sums.{xor_bits}
use Rattle.hamming.proofs.Lengths.{lengths_at}

-- a flip keeps the length
pub flip_length : (k : ℕ) (l : List Bool) → length (flip_at k l) ≡ length l
flip_length k [] = refl
flip_length zero (b ∷ l) = refl
flip_length (suc k) (b ∷ l) = ap suc (flip_length k l)

module _ (n : ℕ) (l : 6 ≤ n) (m : n ≤ 8) where
  -- data and parity make up the word
  pub split_length : data_bits n + check_bits n ≡ n
  split_length = eqb→eq _ _ (lengths_at (λ n. eqb (data_bits n + check_bits n) n) tt n l m)

  -- at most four of its bits are parity
  pub check_le : check_bits n ≤ 4
  check_le = leb→le _ _ (lengths_at (λ n. leb (check_bits n) 4) tt n l m)

  -- the data of a word's bits are those of the quotient
  pub data_is : (w : ℕ) → data_of n (bits n w) ≡ bits (data_bits n) (w / 2 ^ check_bits n)
  data_is w = ap (λ (k : ℕ). take (data_bits n) (bits k w)) (sym split_length) ∙ take_bits (data_bits n) (check_bits n) w

  -- the quotient has no more bits than the data
  data_lt : (w : ℕ) → w < 2 ^ n → w / 2 ^ check_bits n < 2 ^ data_bits n
  data_lt w h = shr_lt (data_bits n) (check_bits n) (subst (λ (k : ℕ). w < 2 ^ k) (sym split_length) h)

  -- as a number the data are the quotient
  pub data_value : (w : ℕ) → w < 2 ^ n → value (data_of n (bits n w)) ≡ w / 2 ^ check_bits n
  data_value w h = ap value (data_is w) ∙ value_bits (data_bits n) (w / 2 ^ check_bits n) (data_lt w h)

  -- the data after a flip are the quotient of the flipped word
  pub flipped_data_value : (k w : ℕ) → value (data_of n (flip_at k (bits n w))) ≡ value (flip_at k (bits n w)) / 2 ^ check_bits n
  flipped_data_value k w =
      let e : length (flip_at k (bits n w)) ≡ n = flip_length k (bits n w) ∙ bits_length n w in
      ap (λ (x : List Bool). value (data_of n x)) (sym (bits_value n (flip_at k (bits n w)) e)) ∙ data_value (value (flip_at k (bits n w)))
      (value_lt_at n (flip_at k (bits n w)) e)

  -- the parity that belongs to a word's data
  abbrev pub expected : ℕ → ℕ
  expected w = value (parity_of n (bits (data_bits n) (w / 2 ^ check_bits n)))

  -- as many parity bits as a word has room for
  pub parity_length : (d : List Bool) → length d ≡ data_bits n → length (parity_of n d) ≡ check_bits n
  parity_length d h =
      eqb→eq _ _ (all_patterns_at (data_bits n) (λ d. eqb (length (parity_of n d)) (check_bits n))
      (lengths_at (λ n. all_patterns (data_bits n) (λ d. eqb (length (parity_of n d)) (check_bits n))) tt n l m) d h)

  -- the bits of the expected parity
  expected_bits : (w : ℕ) → bits (check_bits n) (expected w) ≡ parity_of n (data_of n (bits n w))
  expected_bits w =
      let d : List Bool = bits (data_bits n) (w / 2 ^ check_bits n) in
      bits_value (check_bits n) (parity_of n d) (parity_length d (bits_length (data_bits n) (w / 2 ^ check_bits n))) ∙ ap (parity_of n) (sym (data_is w))

  -- parity as a number is below 16
  check_lt : (x : ℕ) → x < 2 ^ check_bits n → x < 16
  check_lt x h = lt_of_lt_of_le h (pow_mono check_le)

  -- so is the parity that belongs to the data
  pub expected_lt : (w : ℕ) → expected w < 16
  expected_lt w =
      let d : List Bool = bits (data_bits n) (w / 2 ^ check_bits n) in
      check_lt (expected w) (value_lt_at (check_bits n) (parity_of n d) (parity_length d (bits_length (data_bits n) (w / 2 ^ check_bits n))))

  -- and what is received as parity
  pub received_lt : (w : ℕ) → w % 2 ^ check_bits n < 16
  received_lt w = check_lt _ (mod-lt w (pow_pos (check_bits n)))

  -- the received parity is the low bits
  pub received_bits : (w : ℕ) → drop (data_bits n) (bits n w) ≡ bits (check_bits n) w
  received_bits w = ap (λ (k : ℕ). drop (data_bits n) (bits k w)) (sym split_length) ∙ drop_bits (data_bits n) (check_bits n) w

  -- a syndrome has as many bits as the parity
  pub syndrome_length : (w : ℕ) → length (syndrome n (bits n w)) ≡ check_bits n
  syndrome_length w = ⊕_length (drop (data_bits n) (bits n w)) _ ∙ ap length (received_bits w) ∙ bits_length (check_bits n) w

  -- the syndrome is received parity plus that of the data
  pub syndrome_is : (w : ℕ) → bits (check_bits n) (bit_xor (w % 2 ^ check_bits n) (expected w)) ≡ syndrome n (bits n w)
  syndrome_is w =
      xor_bits (check_bits n) _ _
      ∙ ap₂ ◌⊕◌ (bits_mod (check_bits n) w ∙ sym (received_bits w)) (expected_bits w)
