-- The outcome of a word of n bits from the table's entry at its syndrome.
-- Assumes nothing.
use mathlib.Core.Path.{◌≡◌, sym, ap, ◌∙◌}
use mathlib.Core.Bool.{Bool}
use mathlib.Core.List.{List}
use Prim.Native.Nat.{ℕ, ◌/◌, ◌%◌, ◌^◌, ◌≤◌, ◌<◌}
use native.Mathlib.Nat.{mod-lt}
use Rattle.std.specs.Prelude.{None}
use lib.Bits.{bit_xor, xor_lt}
use lib.Pow.{pow_pos}
use Rattle.bits.specs.Bits.{value, bits}
use Rattle.bits.proofs.Digits.{bits_mod}
use Rattle.hamming.specs.Word.{check_bits, data_bits, parity_of, syndrome, flip_at, flip, fix_of, read_as, mend, decode}
use Rattle.hamming.specs.Table.{stand_mark, erase_mark, entry_of}
use Rattle.hamming.proofs.Words.{expected, expected_lt, received_lt, syndrome_length, syndrome_is, data_value, flipped_data_value}
use Rattle.hamming.proofs.Entries.{entry_erase, entry_stand, entry_flip}

-- received parity plus expected parity, as a number: it has the bits of the syndrome, and is below 16
pub syndrome_of : (n : ℕ) → 6 ≤ n → n ≤ 8 → (w weight p : ℕ) → weight ≡ 2 ^ check_bits n → p ≡ value (parity_of n (bits (data_bits n) (w / weight)))
    → (bits (check_bits n) (bit_xor (w % weight) p) ≡ syndrome n (bits n w)) × (bit_xor (w % weight) p < 16)
syndrome_of n l m w weight p e h =
    rw (h, e) (syndrome_is n l m w, xor_lt 4 (w % 2 ^ check_bits n) (expected n l m w) (received_lt n l m w) (expected_lt n l m w))

-- a word of n bits that stands at the end of a number, its syndrome, and the entry of the table there
pub record Asked (n number word weight z entry : ℕ) : Type 0 where
  pub least : 6 ≤ n
  pub most : n ≤ 8
  pub word_is : word ≡ number % 2 ^ n
  pub weight_is : weight ≡ 2 ^ check_bits n
  pub syndrome_is : bits (check_bits n) z ≡ syndrome n (bits n word)
  pub entry_is : entry ≡ entry_of (fix_of n (bits (check_bits n) z))

module _ {n number word weight z entry : ℕ} (a : Asked n number word weight z entry) where
  word_lt : word < 2 ^ n
  word_lt = rw a.word_is (mod-lt number (pow_pos n))

  -- the entry is that of the word's syndrome
  asked : entry ≡ entry_of (fix_of n (syndrome n (bits n word)))
  asked = a.entry_is ∙ ap (λ (x : List Bool). entry_of (fix_of n x)) a.syndrome_is

  -- what is asked for gives the outcome of the number's low bits
  mended : (f : _) → fix_of n (syndrome n (bits n word)) ≡ f → mend n (bits n word) f ≡ decode n (bits n number)
  unfolding decode
  mended f e = ap (mend n (bits n word)) (sym e) ∙ ap (λ (x : List Bool). decode n x) (rw a.word_is (bits_mod n number))

  -- the mark of an erasure
  pub erase_is : entry ≡ erase_mark → None ≡ decode n (bits n number)
  erase_is f = mended _ (entry_erase n a.least a.most _ (syndrome_length n a.least a.most word) (sym asked ∙ f))

  -- the mark of a word that stands
  pub stand_is : entry ≡ stand_mark → read_as (word / weight) 0 ≡ decode n (bits n number)
  stand_is f =
      rw a.weight_is (ap (λ (x : ℕ). read_as x 0) (sym (data_value n a.least a.most word word_lt)))
      ∙ mended _ (entry_stand n a.least a.most _ (syndrome_length n a.least a.most word) (sym asked ∙ f))

  module _ (no_erasure : entry ≡ erase_mark → ⊥) (no_mark : entry ≡ stand_mark → ⊥) where
    fix_flips : (fix_of n (syndrome n (bits n word)) ≡ flip (entry_of (fix_of n (syndrome n (bits n word))))) × (entry_of (fix_of n (syndrome n (bits n word))) < n)
    fix_flips = entry_flip n a.least a.most _ (syndrome_length n a.least a.most word) (λ f. no_erasure (asked ∙ f)) (λ f. no_mark (asked ∙ f))

    -- any other entry is a bit of the word
    pub flipped_fits : (entry < n) × (word < 2 ^ n)
    flipped_fits = (rw asked fix_flips.1, word_lt)

    -- which is flipped back
    pub flip_is : (x : ℕ) → x ≡ value (flip_at entry (bits n word)) → read_as (x / weight) 1 ≡ decode n (bits n number)
    flip_is x f =
        rw (a.weight_is, f) (ap (λ (y : ℕ). read_as y 1) (sym (flipped_data_value n a.least a.most entry word)))
        ∙ mended _ (fix_flips.0 ∙ ap flip (sym asked))
