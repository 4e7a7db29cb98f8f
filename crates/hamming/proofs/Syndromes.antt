-- What is asked for at every syndrome of every word: each bit's column flips that bit, parity bits included; an even one erases word A
-- and the spare's column word B; only zero lets a word stand.
-- Assumes nothing.
use mathlib.Core.Path.{◌≡◌, refl, ap}
use mathlib.Core.Bool.{Bool, false, ◌&&◌}
use mathlib.Core.List.{List}
use Prim.Native.Nat.{ℕ, ◌%◌, ◌≤◌, ◌<◌}
use lib.Dec.{T, eqb, eqb→eq, ltb}
use lib.ListN.{length}
use borrow.Author.Tests.{eq-eqb, ne_eqb}
use Rattle.bits.specs.Bits.{ones, same}
use Rattle.bits.specs.Lists.{every}
use Rattle.bits.proofs.Tests.{every_at}
use Rattle.bits.proofs.Patterns.{all_patterns, all_patterns_at}
use Rattle.hamming.specs.Word.{check_bits, column, spare_column, erases, Fix, stand, flip, erase, fix_of}
use Rattle.hamming.proofs.Lengths.{lengths_at}

-- a request to flip bit k
is_flip : ℕ → Fix → Bool
is_flip k stand = false
is_flip k (flip j) = eqb j k
is_flip k erase = false

is_flip_eq : (k : ℕ) (f : Fix) → T (is_flip k f) → f ≡ flip k
unfolding is_flip
is_flip_eq k stand t = absurd t
is_flip_eq k (flip j) t = ap flip (eqb→eq j k t)
is_flip_eq k erase t = absurd t

-- the column of bit k asks for bit k
flips_back : ℕ → ℕ → Bool
flips_back n k = is_flip k (fix_of n (column n k))

-- the column of any bit, data or parity, flips that bit
pub column_flips : (n : ℕ) → 6 ≤ n → n ≤ 8 → (k : ℕ) → k < n → fix_of n (column n k) ≡ flip k
unfolding flips_back is_flip fix_of
column_flips n l m k h = is_flip_eq k _ (every_at n (flips_back n) (lengths_at (λ n. every n (flips_back n)) tt n l m) k h)

-- a zero syndrome lets any word stand
pub zero_stands : (n : ℕ) (z : List Bool) → ones z ≡ 0 → fix_of n z ≡ stand
unfolding fix_of
zero_stands n z e = simp (eq-eqb (ones z) 0 e)

-- any other with an even number of ones erases word A
pub even_erases : (z : List Bool) → (ones z ≡ 0 → ⊥) → ones z % 2 ≡ 0 → fix_of 8 z ≡ erase
unfolding fix_of
even_erases z h e = simp (ne_eqb (ones z) 0 h, eq-eqb (ones z % 2) 0 e)

-- what each request says of its syndrome
abbrev pub explains : ℕ → List Bool → Fix → Bool
explains n z stand = eqb (ones z) 0
explains n z (flip k) = ltb k n && same z (column n k)
explains n z erase = erases n z

-- the request at a syndrome is explained by it
explained : ℕ → List Bool → Bool
explained n z = explains n z (fix_of n z)

-- every syndrome of every word: it stands for zero, a flip for that bit's column, an erasure for one that erases
pub fix_explains : (n : ℕ) → 6 ≤ n → n ≤ 8 → (z : List Bool) → length z ≡ check_bits n → T (explains n z (fix_of n z))
unfolding explained fix_of
fix_explains n l m z h = all_patterns_at (check_bits n) (explained n) (lengths_at (λ n. all_patterns (check_bits n) (explained n)) tt n l m) z h

-- the spare's column erases word B
pub spare_erases : fix_of 6 spare_column ≡ erase
unfolding fix_of
spare_erases = refl
