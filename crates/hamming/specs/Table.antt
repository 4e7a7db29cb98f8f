-- Helpers of the code, no part of document 01: how its table of tables writes what a syndrome asks for, the bit to flip or one of two marks.
use Rattle.std.specs.Prelude.{ℕ, List}
use Rattle.bits.specs.Bits.{bits, cut}
use Rattle.hamming.specs.Word.{check_bits, Fix, stand, flip, erase, fix_of}

-- the mark of a word that stands
abbrev pub stand_mark : ℕ
stand_mark = 8

-- the mark of an erasure
abbrev pub erase_mark : ℕ
erase_mark = 9

-- the entry of each request
abbrev pub entry_of : Fix → ℕ
entry_of stand = stand_mark
entry_of (flip k) = k
entry_of erase = erase_mark

-- the row for words of n bits: an entry for each number below 16, of which the parity bits are the lowest
unfoldable pub fix_row : ℕ → List ℕ
fix_row n = cut (λ z. entry_of (fix_of n (bits (check_bits n) z))) 0 16
