-- The code of an index and the index of a code are inverse, for all 99; every index that is read is one of them.
-- Assumes nothing.
use mathlib.Core.Path.{◌≡◌, ap}
use mathlib.Core.Bool.{Bool, true, false, ◌&&◌}
use mathlib.Core.List.{List}
use Prim.Native.Nat.{ℕ, ◌<◌}
use lib.Dec.{T, eqb, eqb→eq, ltb, ltb→lt}
use lib.ListN.{length}
use Rattle.bits.specs.Bits.{bits}
use Rattle.bits.proofs.Tests.{and_left, and_right, implies, implies_at, every_at}
use Rattle.bits.proofs.Patterns.{all_patterns_at}
use Rattle.pitch.specs.Pitch.{index, is_voiced, class_of, voiced_from, code_of}
use Rattle.pitch.specs.declared.PitchClass.{PitchClass}
use Rattle.pitch.specs.declared.PitchClass.TheVariants.{Unvoiced, Erased, Voiced}

-- a class is voiced with this index
abbrev is_index : ℕ → PitchClass → Bool
is_index i Unvoiced = false
is_index i Erased = false
is_index i (Voiced j) = eqb j i

is_index_eq : (i : ℕ) (c : PitchClass) → T (is_index i c) → c ≡ Voiced i
is_index_eq i Unvoiced t = absurd t
is_index_eq i Erased t = absurd t
is_index_eq i (Voiced j) t = ap Voiced (eqb→eq j i t)

-- the code of index i is read as i and has seven bits
returns : ℕ → Bool
returns i = is_index i (class_of (bits 7 (code_of i))) && ltb (code_of i) 128

returns_at : (i : ℕ) → i < 99 → T (returns i)
unfolding returns index class_of voiced_from code_of
returns_at = every_at 99 returns tt

-- the code of an index is read as that index
pub index_back : (i : ℕ) → i < 99 → class_of (bits 7 (code_of i)) ≡ Voiced i
unfolding returns
index_back i h = is_index_eq i _ (and_left (is_index i (class_of (bits 7 (code_of i)))) (ltb (code_of i) 128) (returns_at i h))

-- it has seven bits
pub code_lt : (i : ℕ) → i < 99 → code_of i < 128
unfolding returns
code_lt i h = ltb→lt (code_of i) 128 (and_right (is_index i (class_of (bits 7 (code_of i)))) (ltb (code_of i) 128) (returns_at i h))

-- a voiced code is sent for its own index
sends : ℕ → Bool
sends c = implies (is_voiced c) (eqb (code_of (index c)) c)

-- the index of a voiced code is sent as that code
pub code_back : (c : ℕ) → c < 128 → is_voiced c ≡ true → code_of (index c) ≡ c
unfolding sends index voiced_from code_of
code_back c h v = eqb→eq (code_of (index c)) c (implies_at (is_voiced c) (eqb (code_of (index c)) c) (every_at 128 sends tt c h) v)

-- a class has no index, or one below 99
abbrev pub index_fits : PitchClass → Bool
index_fits Unvoiced = true
index_fits Erased = true
index_fits (Voiced i) = ltb i 99

-- the same of the class of a list of bits
fits : List Bool → Bool
fits p = index_fits (class_of p)

-- so has the class of any seven bits
pub class_index_fits : (p : List Bool) → length p ≡ 7 → T (index_fits (class_of p))
unfolding fits index class_of
class_index_fits = all_patterns_at 7 fits tt
