-- A test at each of the three word lengths, and the law that hands it over at one of them.
-- Assumes nothing.
use mathlib.Core.Bool.{Bool}
use Prim.Native.Nat.{ℕ, ◌≤◌}
use native.Mathlib.Omega.{arith}
use lib.Dec.{T, leb, lit≤}
use borrow.Author.Tests.{le-leb}
use Rattle.bits.specs.Lists.{every}
use Rattle.bits.proofs.Tests.{every_at, implies, implies_at}
use Rattle.hamming.specs.Word.{length_of}
use Rattle.hamming.specs.declared.WordLength.{WordLength}
use Rattle.hamming.specs.declared.WordLength.TheVariants.{Six, Seven, Eight}

-- a test at the lengths 6, 7 and 8
abbrev pub lengths : (ℕ → Bool) → Bool
lengths f = every 9 (λ n. implies (leb 6 n) (f n))

-- it holds at each of them
pub lengths_at : (f : ℕ → Bool) → T (lengths f) → (n : ℕ) → 6 ≤ n → n ≤ 8 → T (f n)
lengths_at f t n l m = implies_at (leb 6 n) (f n) (every_at 9 (λ n. implies (leb 6 n) (f n)) t n (omega arith)) (le-leb 6 n l)

-- a word's length is one of them
pub length_least : (l : WordLength) → 6 ≤ length_of l
length_least Six = lit≤ tt
length_least Seven = lit≤ tt
length_least Eight = lit≤ tt

pub length_most : (l : WordLength) → length_of l ≤ 8
length_most Six = lit≤ tt
length_most Seven = lit≤ tt
length_most Eight = lit≤ tt
