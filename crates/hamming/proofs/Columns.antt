-- The columns of the parity equations, once over the word length, are those of the standard's generator matrices (5.4) and one for each parity bit.
-- Assumes nothing.
use mathlib.Core.Path.{◌≡◌, refl}
use mathlib.Core.Bool.{Bool}
use mathlib.Core.List.{List, [], ◌∷◌, ◌++◌, map}
use Prim.Native.Nat.{ℕ, ◌≤◌, ◌<◌}
use lib.ListN.{take, get_or}
use Rattle.bits.specs.Bits.{bits, same}
use Rattle.bits.specs.Lists.{every}
use Rattle.bits.proofs.Tests.{every_at}
use Rattle.bits.proofs.Patterns.{same_eq}
use Rattle.hamming.specs.Word.{check_bits, data_bits, column, spare_column}
use Rattle.hamming.proofs.Lengths.{lengths_at}

-- the columns of the (8,4) matrix, u0 to u3; the (7,4) matrix has their first three bits
abbrev pub generator : List (List Bool)
generator = bits 4 0b1101 ∷ bits 4 0b1011 ∷ bits 4 0b0111 ∷ bits 4 0b1110 ∷ []

-- the column of each parity bit alone
abbrev pub units : List (List Bool)
units = bits 4 0b1000 ∷ bits 4 0b0100 ∷ bits 4 0b0010 ∷ bits 4 0b0001 ∷ []

-- the columns of a word of n bits, data first
abbrev pub matrix : ℕ → List (List Bool)
matrix n = map (take (check_bits n)) (take (data_bits n) generator ++ take (check_bits n) units)

-- the column of bit k is the matrix's
right : ℕ → ℕ → Bool
right n k = same (column n k) (get_or (matrix n) k [])

-- bit k of a word of n bits has the matrix's column
pub column_is : (n : ℕ) → 6 ≤ n → n ≤ 8 → (k : ℕ) → k < n → column n k ≡ get_or (matrix n) k []
unfolding right
column_is n l m k h = same_eq _ _ (every_at n (right n) (lengths_at (λ n. every n (right n)) tt n l m) k h)

-- the column of word B's spare is that of the (7,4) matrix's fourth data bit
pub spare_is : spare_column ≡ get_or (matrix 7) 3 []
spare_is = refl
