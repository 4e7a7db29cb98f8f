-- Whatever a word is read as: its data are below two to the number of data bits, and no more bits were repaired than there are.
-- Assumes nothing.
use mathlib.Core.Path.{◌≡◌, ◌∙◌}
use mathlib.Core.Bool.{Bool}
use mathlib.Core.List.{List}
use Prim.Native.Nat.{ℕ, ◌≤◌}
use native.Mathlib.Omega.{arith}
use lib.ListN.{length, length-take}
use Rattle.bits.proofs.Value.{value_lt_at}
use Rattle.hamming.specs.Word.{data_bits, data_of, syndrome, flip_at, Fix, stand, flip, erase, fix_of, mend, decode, Bounded}
use Rattle.hamming.proofs.Words.{flip_length}

-- the data of a word of n bits
pub data_length : (n : ℕ) (w : List Bool) → length w ≡ n → length (data_of n w) ≡ data_bits n
data_length n w e = length-take (data_bits n) w ∙ omega arith

-- every request leaves an outcome that fits the word
mend_bounded : (n : ℕ) (w : List Bool) → 1 ≤ n → length w ≡ n → (f : Fix) → Bounded n (mend n w f)
mend_bounded n w h e stand = (value_lt_at (data_bits n) (data_of n w) (data_length n w e), omega arith)
mend_bounded n w h e (flip k) =
    (value_lt_at (data_bits n) (data_of n (flip_at k w)) (data_length n (flip_at k w) (flip_length k w ∙ e)), h)
mend_bounded n w h e erase = tt

-- what a received word is read as fits it
pub decode_bounded : (n : ℕ) (w : List Bool) → 1 ≤ n → length w ≡ n → Bounded n (decode n w)
unfolding decode
decode_bounded n w h e = mend_bounded n w h e (fix_of n (syndrome n w))
