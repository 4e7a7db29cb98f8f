-- What came of a word as two numbers: its data and its parity.
-- Assumes nothing.
use mathlib.Core.Path.{◌≡◌, sym, ◌∙◌}
use Prim.Native.Nat.{ℕ, ◌/◌, ◌%◌, ◌^◌, ◌≤◌, ◌<◌}
use native.Mathlib.Nat.{mod-lt}
use lib.ListN.{drop}
use lib.Pow.{pow_pos}
use Rattle.bits.specs.Bits.{bits}
use Rattle.bits.proofs.Digits.{bits_mod}
use Rattle.hamming.specs.Word.{check_bits, data_bits, data_of}
use Rattle.hamming.proofs.Words.{data_is, received_bits}

module _ (n : ℕ) (l : 6 ≤ n) (m : n ≤ 8) (word : ℕ) where
  -- the data are a quotient, cut to the number of data bits
  pub data_came : (x : ℕ) → x ≡ word / 2 ^ check_bits n % 2 ^ data_bits n → (bits (data_bits n) x ≡ data_of n (bits n word)) × (x < 2 ^ data_bits n)
  data_came x e = rw e (bits_mod (data_bits n) (word / 2 ^ check_bits n) ∙ sym (data_is n l m word), mod-lt (word / 2 ^ check_bits n) (pow_pos (data_bits n)))

  -- the parity is a remainder
  pub parity_came : (y : ℕ) → y ≡ word % 2 ^ check_bits n → (bits (check_bits n) y ≡ drop (data_bits n) (bits n word)) × (y < 2 ^ check_bits n)
  parity_came y e = rw e (bits_mod (check_bits n) word ∙ sym (received_bits n l m word), mod-lt word (pow_pos (check_bits n)))
