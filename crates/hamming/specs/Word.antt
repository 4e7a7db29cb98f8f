-- Document 01, "The four words" (MIL-STD-3005, 5.4). A word is given by its length n: eight bits (A), six (B), seven (C and D).
use Rattle.std.specs.Prelude.{ℕ, zero, suc, ◌-◌, ◌%◌, ◌^◌, ◌≤◌, ◌<◌, Bool, true, false, not, cond, ◌&&◌, ◌||◌, List, [], ◌∷◌, ◌++◌, Option, None, Some, IfSome, eqb, take, drop, replicate}
use Rattle.bits.specs.Bits.{◌⊻◌, ◌⊕◌, ones, value, same}
use Rattle.hamming.specs.declared.WordLength.{WordLength}
use Rattle.hamming.specs.declared.WordLength.TheVariants.{Six, Seven, Eight}
use Rattle.hamming.specs.declared.Word.{Word}

-- how many bits a word of each length has
abbrev pub length_of : WordLength → ℕ
length_of Six = 6
length_of Seven = 7
length_of Eight = 8

-- how many of them are parity bits: word A alone has p3
abbrev pub check_bits : ℕ → ℕ
check_bits n = cond (eqb n 8) 4 3

-- how many of them are data bits
abbrev pub data_bits : ℕ → ℕ
data_bits n = n - check_bits n

-- the parity equations: p0 to p3 of four data bits u0 to u3
abbrev pub parity : List Bool → List Bool
parity [] = []
parity (u0 ∷ []) = []
parity (u0 ∷ u1 ∷ []) = []
parity (u0 ∷ u1 ∷ u2 ∷ []) = []
parity (u0 ∷ u1 ∷ u2 ∷ u3 ∷ us) = (u0 ⊻ u1 ⊻ u3) ∷ (u0 ⊻ u2 ⊻ u3) ∷ (u1 ⊻ u2 ⊻ u3) ∷ (u0 ⊻ u1 ⊻ u2) ∷ []

-- the four bits that parity is taken of: word B's fourth is a spare 0 that is not sent
abbrev pub with_spare : List Bool → List Bool
with_spare d = take 4 (d ++ false ∷ [])

-- the parity bits that a word of n bits sends with its data
abbrev pub parity_of : ℕ → List Bool → List Bool
parity_of n d = take (check_bits n) (parity (with_spare d))

-- a word as it is sent: its data, then their parity
abbrev pub encode : ℕ → List Bool → List Bool
encode n d = d ++ parity_of n d

-- the data of a received word
abbrev pub data_of : ℕ → List Bool → List Bool
data_of n w = take (data_bits n) w

-- its syndrome: received parity plus the parity of the received data
abbrev pub syndrome : ℕ → List Bool → List Bool
syndrome n w = drop (data_bits n) w ⊕ parity_of n (data_of n w)

-- a word with bit k, counted from the first, flipped
abbrev pub flip_at : ℕ → List Bool → List Bool
flip_at k [] = []
flip_at zero (b ∷ bs) = not b ∷ bs
flip_at (suc k) (b ∷ bs) = b ∷ flip_at k bs

-- the column of bit k: the syndrome of a word in which this bit alone is set
abbrev pub column : ℕ → ℕ → List Bool
column n k = syndrome n (flip_at k (replicate n false))

-- the column of word B's spare: the parity that its fourth data bit, which is not sent, would leave
abbrev pub spare_column : List Bool
spare_column = parity_of 6 (false ∷ false ∷ false ∷ true ∷ [])

-- which syndromes erase the frame: in word A a nonzero one with an even number of ones; in word B the column of the spare (document 02, T-02)
abbrev pub erases : ℕ → List Bool → Bool
erases n z = (eqb n 8 && (not (eqb (ones z) 0) && eqb (ones z % 2) 0)) || (eqb n 6 && same z spare_column)

-- the first of m bits from k on whose column is z
abbrev pub bit_from : ℕ → List Bool → ℕ → ℕ → ℕ
bit_from n z zero k = k
bit_from n z (suc m) k = cond (same (column n k) z) k (bit_from n z m (suc k))

-- what a syndrome asks for: the word stands, bit k is flipped back, or the frame is erased
pub data Fix : Type 0 where
  stand : Fix
  flip : ℕ → Fix
  erase : Fix

-- zero: the word stands; one that erases: erased; any other is the column of one of the n bits, which is flipped back
unfoldable pub fix_of : ℕ → List Bool → Fix
fix_of n z = cond (eqb (ones z) 0) stand (cond (erases n z) erase (flip (bit_from n z n 0)))

-- a word that is read: its data as a number, and how many of its bits were repaired
abbrev pub read_as : ℕ → ℕ → Option Word
read_as d k = Some (record { «data» = d; repaired = k })

-- the outcome of the word when that is done: its data, and 1 where a bit was repaired; none where it erases the frame
abbrev pub mend : ℕ → List Bool → Fix → Option Word
mend n w stand = read_as (value (data_of n w)) 0
mend n w (flip k) = read_as (value (data_of n (flip_at k w))) 1
mend n w erase = None

-- the outcome of a received word of n bits
unfoldable pub decode : ℕ → List Bool → Option Word
decode n w = mend n w (fix_of n (syndrome n w))

-- an outcome that fits a word of n bits, however it was chosen: data below two to the number of data bits, and no more bits repaired than there are.
-- A helper of the code above
abbrev pub Bounded : ℕ → Option Word → Type 0
Bounded n r = IfSome r (λ w. (w.data < 2 ^ data_bits n) × (w.repaired ≤ n))
