-- Document 01, "Order of the bits": where a frame's parts stand among its logical bits. Both packing and reading go by these.
use Rattle.std.specs.Prelude.{ℕ, Bool, List}
use Rattle.bits.specs.Bits.{cut}

-- the four words, of each the data and then the parity places; of bits, and of whatever else the logical bits have
abbrev pub word_a : {A : Type 0} → (ℕ → A) → List A
word_a g = cut g 0 8

abbrev pub word_b : {A : Type 0} → (ℕ → A) → List A
word_b g = cut g 8 6

abbrev pub word_c : {A : Type 0} → (ℕ → A) → List A
word_c g = cut g 14 7

abbrev pub word_d : {A : Type 0} → (ℕ → A) → List A
word_d g = cut g 21 7

-- the pitch code
abbrev pub pitch_bits : (ℕ → Bool) → List Bool
pitch_bits g = cut g 28 7

-- the LSF indices of stages 2 to 4
abbrev pub l2_bits : (ℕ → Bool) → List Bool
l2_bits g = cut g 35 6

abbrev pub l3_bits : (ℕ → Bool) → List Bool
l3_bits g = cut g 41 6

abbrev pub l4_bits : (ℕ → Bool) → List Bool
l4_bits g = cut g 47 6

-- the sync bit
abbrev pub sync_bit : (ℕ → Bool) → Bool
sync_bit g = g 53
