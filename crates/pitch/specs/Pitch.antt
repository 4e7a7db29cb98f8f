-- Document 01, "Pitch code" (MIL-STD-3005, 5.3.1 and Table I), and the refusals of its calls.
use Rattle.std.specs.Prelude.{ℕ, zero, suc, Bool, not, cond, List, [], ◌∷◌, leb, ltb, get_or, Option, Result}
use Rattle.bits.specs.Bits.{ones, value, bits}
use Rattle.refusal.specs.Refusals.{first_refusal, unless}
use Rattle.refusal.specs.declared.Refusal.{Refusal}
use Rattle.refusal.specs.declared.Refusal.TheVariants.{OutOfRange}
use Rattle.pitch.specs.declared.PitchClass.{PitchClass}
use Rattle.pitch.specs.declared.PitchClass.TheVariants.{Unvoiced, Erased, Voiced}

-- whether a seven-bit code has the three ones or more of a voiced one
abbrev pub is_voiced : ℕ → Bool
is_voiced c = leb 3 (ones (bits 7 c))

-- the index of a code: how many voiced codes are smaller
unfoldable pub index : ℕ → ℕ
index zero = 0
index (suc c) = cond (is_voiced c) (suc (index c)) (index c)

-- the class by the count of ones: none or one is unvoiced, two erased, more voiced
abbrev pub by_ones : ℕ → ℕ → PitchClass
by_ones zero i = Unvoiced
by_ones (suc zero) i = Unvoiced
by_ones (suc (suc zero)) i = Erased
by_ones (suc (suc (suc n))) i = Voiced i

-- the class of seven bits
unfoldable pub class_of : List Bool → PitchClass
class_of p = by_ones (ones p) (index (value p))

-- the codes with at least three ones among the n from c on, rising
unfoldable pub voiced_from : ℕ → ℕ → List ℕ
voiced_from zero c = []
voiced_from (suc n) c = cond (is_voiced c) (c ∷ voiced_from n (suc c)) (voiced_from n (suc c))

-- the code that an index is sent as: the one with this many smaller voiced codes
unfoldable pub code_of : ℕ → ℕ
code_of i = get_or (voiced_from 128 0) i 0

-- the code that unvoiced is sent as
abbrev pub unvoiced_code : ℕ
unvoiced_code = 0x00

-- the refusal of a code: 5 past 127
abbrev pub code_refusal : ℕ → Option Refusal
code_refusal c = first_refusal ((not (ltb c 128), OutOfRange) ∷ [])

-- the refusal of an index: 5 past 98
abbrev pub index_refusal : ℕ → Option Refusal
index_refusal i = first_refusal ((not (ltb i 99), OutOfRange) ∷ [])

-- the answers of the two calls
unfoldable pub class_answer : ℕ → Result PitchClass Refusal
class_answer c = unless (code_refusal c) (class_of (bits 7 c))

unfoldable pub code_answer : ℕ → Result ℕ Refusal
code_answer i = unless (index_refusal i) (code_of i)
