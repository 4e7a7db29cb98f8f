-- Document 02, T-05: what is claimed of reading with confidences, for all logical bits g and all confidences q of theirs. Proved in the law file of
-- this name; what is claimed of one word's choice stands in `soft:Claims`.
use Rattle.std.specs.Prelude.{ℕ, ◌+◌, ◌<◌, ◌≡◌, Bool, false, None}
use Rattle.bits.specs.Bits.{ones}
use Rattle.pitch.specs.Pitch.{class_of}
use Rattle.pitch.specs.declared.PitchClass.TheVariants as class
use Rattle.hamming.specs.Word.{syndrome, spare_column, erases}
use Rattle.order.specs.Fields.{word_a, word_b, word_c, word_d, pitch_bits}
use Rattle.sets.specs.declared.Indices.{Indices}
use Rattle.sets.specs.declared.ParameterSet.TheVariants.{Unvoiced}
use Rattle.soft.specs.Choice.{differing, chosen}
use Rattle.soft.specs.Claims.{Tied}
use Rattle.reading.specs.Reading.{indices_of, pitch_repaired, accepted_as, read}
use Rattle.reading.specs.SoftReading.{soft_read}

-- where reading with equal confidences differs: an unvoiced pitch code, word A does not erase, and word B shows the spare's syndrome
pub record SpareShown (g : ℕ → Bool) : Type 0 where
  pub unvoiced : class_of (pitch_bits g) ≡ class.Unvoiced
  pub kept : erases 8 (syndrome 8 (word_a g)) ≡ false
  pub spare : syndrome 6 (word_b g) ≡ spare_column

-- all the words' bits have the same confidence, above 0
pub record AllEqual (k : ℕ) (q : ℕ → ℕ) : Type 0 where
  pub above : 0 < k
  pub equal : (j : ℕ) → j < 28 → q j ≡ k

module _ (g : ℕ → Bool) (q : ℕ → ℕ) where
  -- the data taken for each word, and how many of its sent places differ from their code word
  abbrev pub taken_a : ℕ
  taken_a = chosen 8 (word_a q) (word_a g)

  abbrev pub taken_b : ℕ
  taken_b = chosen 6 (word_b q) (word_b g)

  abbrev pub taken_c : ℕ
  taken_c = chosen 7 (word_c q) (word_c g)

  abbrev pub taken_d : ℕ
  taken_d = chosen 7 (word_d q) (word_d g)

  abbrev pub taken_indices : Indices
  taken_indices = indices_of g taken_a taken_b taken_c taken_d

  abbrev pub places_differing : ℕ
  places_differing =
      pitch_repaired (pitch_bits g) + ones (differing 8 (word_a g) taken_a) + ones (differing 6 (word_b g) taken_b) + ones (differing 7 (word_c g) taken_c)
      + ones (differing 7 (word_d g) taken_d)

  pub record SoftClaims : Type 0 where
    -- a voiced or erased pitch code: read as without confidences, so these play no part
    pub alone : (class_of (pitch_bits g) ≡ class.Unvoiced → ⊥) → soft_read g q ≡ read g
    -- an unvoiced one: two or more cheapest in word A erase the frame
    pub tied : class_of (pitch_bits g) ≡ class.Unvoiced → Tied 8 (word_a q) (word_a g) → soft_read g q ≡ None
    -- else the four data taken, and as repaired the word places that differ from the words taken and the pitch's own
    pub taken : class_of (pitch_bits g) ≡ class.Unvoiced → (Tied 8 (word_a q) (word_a g) → ⊥)
        → soft_read g q ≡ accepted_as (Unvoiced taken_indices) places_differing
    -- all confidences equal and above 0: read as without them, except where the spare is shown
    pub equal : (k : ℕ) → AllEqual k q → (SpareShown g → ⊥) → soft_read g q ≡ read g
    -- there the old way erases the frame, and this one reads the data taken
    pub spare_erased : SpareShown g → read g ≡ None
    pub spare_read : (k : ℕ) → AllEqual k q → SpareShown g → soft_read g q ≡ accepted_as (Unvoiced taken_indices) places_differing
