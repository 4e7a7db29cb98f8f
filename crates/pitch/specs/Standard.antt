-- MIL-STD-3005, Table I: the rows that our copy has. Those of 0x0C to 0x11, 0x2C to 0x31, 0x4C to 0x51 and 0x6C to 0x71 are missing there.
use Rattle.std.specs.Prelude.{ℕ, ◌≡◌, List, [], ◌∷◌, ◌++◌}
use Rattle.bits.specs.Bits.{bits, cut}
use Rattle.pitch.specs.Pitch.{class_of}
use Rattle.pitch.specs.declared.PitchClass.{PitchClass}
use Rattle.pitch.specs.declared.PitchClass.TheVariants.{Unvoiced, Erased, Voiced}

-- the table's three cases: unvoiced, an erasure, and a pitch index
abbrev U : PitchClass
U = Unvoiced

abbrev E : PitchClass
E = Erased

abbrev P : ℕ → PitchClass
P i = Voiced i

-- the classes of n codes from c on
abbrev classes_from : ℕ → ℕ → List PitchClass
classes_from c n = cut (λ k. class_of (bits 7 k)) c n

-- each run of rows, by its first code and how many there are
pub record StandardRows : Type 0 where
  pub rows_00 : classes_from 0x00 12 ≡ U ∷ U ∷ U ∷ E ∷ U ∷ E ∷ E ∷ P 0 ∷ U ∷ E ∷ E ∷ P 1 ∷ []
  pub rows_12 : classes_from 0x12 26
      ≡ (E ∷ P 5 ∷ E ∷ P 6 ∷ P 7 ∷ P 8 ∷ E ∷ P 9 ∷ P 10 ∷ P 11 ∷ P 12 ∷ P 13 ∷ P 14 ∷ P 15 ∷ [])
      ++ (U ∷ E ∷ E ∷ P 16 ∷ E ∷ P 17 ∷ P 18 ∷ P 19 ∷ E ∷ P 20 ∷ P 21 ∷ P 22 ∷ [])
  pub rows_32 : classes_from 0x32 26
      ≡ (P 28 ∷ P 29 ∷ P 30 ∷ P 31 ∷ P 32 ∷ P 33 ∷ P 34 ∷ P 35 ∷ P 36 ∷ P 37 ∷ P 38 ∷ P 39 ∷ P 40 ∷ P 41 ∷ [])
      ++ (U ∷ E ∷ E ∷ P 42 ∷ E ∷ P 43 ∷ P 44 ∷ P 45 ∷ E ∷ P 46 ∷ P 47 ∷ P 48 ∷ [])
  pub rows_52 : classes_from 0x52 26
      ≡ (P 54 ∷ P 55 ∷ P 56 ∷ P 57 ∷ P 58 ∷ P 59 ∷ P 60 ∷ P 61 ∷ P 62 ∷ P 63 ∷ P 64 ∷ P 65 ∷ P 66 ∷ P 67 ∷ [])
      ++ (E ∷ P 68 ∷ P 69 ∷ P 70 ∷ P 71 ∷ P 72 ∷ P 73 ∷ P 74 ∷ P 75 ∷ P 76 ∷ P 77 ∷ P 78 ∷ [])
  pub rows_72 : classes_from 0x72 14 ≡ P 85 ∷ P 86 ∷ P 87 ∷ P 88 ∷ P 89 ∷ P 90 ∷ P 91 ∷ P 92 ∷ P 93 ∷ P 94 ∷ P 95 ∷ P 96 ∷ P 97 ∷ P 98 ∷ []
