-- Document 01, "Receiver" and "The four words": what a frame's logical bits are read as.
use Rattle.std.specs.Prelude.{ℕ, ◌+◌, ◌*◌, ◌/◌, ◌%◌, ◌≡◌, Bool, true, cond, List, ◌++◌, eqb, take, drop, Option, None, Some}
use Rattle.bits.specs.Bits.{ones, value}
use Rattle.pitch.specs.Pitch.{class_of}
use Rattle.pitch.specs.declared.PitchClass.{PitchClass}
use Rattle.pitch.specs.declared.PitchClass.TheVariants as class
use Rattle.hamming.specs.Word.{data_bits, data_of, decode}
use Rattle.hamming.specs.declared.Word.{Word}
use Rattle.order.specs.Fields.{word_a, word_b, word_c, word_d, pitch_bits, l2_bits, l3_bits, l4_bits}
use Rattle.sets.specs.Sets.{in_range}
use Rattle.sets.specs.declared.Indices.{Indices}
use Rattle.sets.specs.declared.Voicing.{Voicing}
use Rattle.sets.specs.declared.ParameterSet.{ParameterSet}
use Rattle.sets.specs.declared.ParameterSet.TheVariants.{Unvoiced, Voiced}
use Rattle.reading.specs.declared.Accepted.{Accepted}

-- the six indices from the data of the four words, u0 most significant, and the other bits
abbrev pub indices_of : (ℕ → Bool) → ℕ → ℕ → ℕ → ℕ → Indices
indices_of g a b c d = record {
  l1 = a * 8 + b;
  l2 = value (l2_bits g);
  l3 = value (l3_bits g);
  l4 = value (l4_bits g);
  g2 = c * 2 + d / 8;
  g1 = d % 8;
}

-- the data of a word of n bits as received, nothing repaired
abbrev pub as_received : ℕ → List Bool → ℕ
as_received n w = value (data_of n w)

-- what stands in the parity places of a word of n bits
abbrev pub parity_places : ℕ → List Bool → List Bool
parity_places n w = drop (data_bits n) w

-- the four of a voiced set: the bandpass bits in A, the Fourier index in B, C and D, the aperiodic flag last in D; and the pitch index
abbrev pub voicing_of : (ℕ → Bool) → ℕ → Voicing
voicing_of g i = record {
  pitch = i;
  bandpass = value (parity_places 8 (word_a g));
  fourier = value (parity_places 6 (word_b g) ++ (parity_places 7 (word_c g) ++ take 2 (parity_places 7 (word_d g))));
  aperiodic = value (drop 2 (parity_places 7 (word_d g)));
}

-- the repaired count of an unvoiced pitch code: 1 where it has a single one
abbrev pub pitch_repaired : List Bool → ℕ
pitch_repaired p = cond (eqb (ones p) 1) 1 0

-- a frame that is accepted: its set, and how many bits were repaired
abbrev pub accepted_as : ParameterSet → ℕ → Option Accepted
accepted_as x k = Some (record { set = x; repaired = k })

-- an unvoiced frame from its four words: erased with any of them, else their data, and the repairs added up
abbrev pub from_words : (ℕ → Bool) → Option Word → Option Word → Option Word → Option Word → Option Accepted
from_words g None b c d = None
from_words g (Some a) None c d = None
from_words g (Some a) (Some b) None d = None
from_words g (Some a) (Some b) (Some c) None = None
from_words g (Some a) (Some b) (Some c) (Some d) =
    accepted_as (Unvoiced (indices_of g a.data b.data c.data d.data)) (pitch_repaired (pitch_bits g) + a.repaired + b.repaired + c.repaired + d.repaired)

-- by the class of the pitch code (5.3.1): only under an unvoiced one are the words checked, A, then B, C and D; a voiced frame is read as it stands
abbrev pub by_class : (ℕ → Bool) → PitchClass → Option Accepted
by_class g class.Unvoiced = from_words g (decode 8 (word_a g)) (decode 6 (word_b g)) (decode 7 (word_c g)) (decode 7 (word_d g))
by_class g class.Erased = None
by_class g (class.Voiced i) = accepted_as (Voiced (indices_of g (as_received 8 (word_a g)) (as_received 6 (word_b g)) (as_received 7 (word_c g)) (as_received 7 (word_d g))) (voicing_of g i)) 0

-- by the class of the pitch code, where an unvoiced frame is read so that P holds: a helper of the code above
abbrev pub ReadsWith : (Option Accepted → Type 0) → (ℕ → Bool) → PitchClass → Option Accepted → Type 0
ReadsWith P g class.Unvoiced r = P r
ReadsWith P g class.Erased r = r ≡ by_class g class.Erased
ReadsWith P g (class.Voiced i) r = r ≡ by_class g (class.Voiced i)

-- what 54 logical bits are read as; the sync bit plays no part
unfoldable pub read : (ℕ → Bool) → Option Accepted
read g = by_class g (class_of (pitch_bits g))

-- whether what is read has no set, or one in range: a helper of the code above
abbrev pub reading_fits : Option Accepted → Bool
reading_fits (Some r) = in_range r.set
reading_fits None = true
