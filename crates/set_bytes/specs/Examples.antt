-- Sets in bytes, in numbers: two sets with their bytes, and bytes that are those of no set.
use Rattle.std.specs.Prelude.{ℕ, ◌≡◌, List, [], ◌∷◌, Ok, Err}
use Rattle.refusal.specs.declared.Refusal.TheVariants.{OutOfRange}
use Rattle.sets.specs.declared.ParameterSet.{ParameterSet}
use Rattle.sets.specs.declared.ParameterSet.TheVariants.{Unvoiced, Voiced}
use Rattle.set_bytes.specs.SetBytes.{bytes_of, read_answer}

-- each index has another value, so that none can stand for another
abbrev pub voiced : ParameterSet
voiced = Voiced (record { l1 = 87; l2 = 41; l3 = 23; l4 = 10; g2 = 17; g1 = 5 }) (record { pitch = 42; bandpass = 12; fourier = 200; aperiodic = 1 })

abbrev pub unvoiced : ParameterSet
unvoiced = Unvoiced (record { l1 = 90; l2 = 41; l3 = 23; l4 = 10; g2 = 11; g1 = 5 })

abbrev pub voiced_bytes : List ℕ
voiced_bytes = 1 ∷ 42 ∷ 87 ∷ 41 ∷ 23 ∷ 10 ∷ 17 ∷ 5 ∷ 12 ∷ 200 ∷ 1 ∷ []

abbrev pub unvoiced_bytes : List ℕ
unvoiced_bytes = 0 ∷ 0 ∷ 90 ∷ 41 ∷ 23 ∷ 10 ∷ 11 ∷ 5 ∷ 0 ∷ 0 ∷ 0 ∷ []

pub record Written : Type 0 where
  pub voiced_to_bytes : bytes_of voiced ≡ voiced_bytes
  pub unvoiced_to_bytes : bytes_of unvoiced ≡ unvoiced_bytes

pub record Read : Type 0 where
  pub voiced_set : read_answer voiced_bytes ≡ Ok voiced
  pub unvoiced_set : read_answer unvoiced_bytes ≡ Ok unvoiced
  pub out_of_range : read_answer (0 ∷ 0 ∷ 255 ∷ 41 ∷ 23 ∷ 10 ∷ 11 ∷ 5 ∷ 0 ∷ 0 ∷ 0 ∷ [])
      ≡ Ok (Unvoiced (record { l1 = 255; l2 = 41; l3 = 23; l4 = 10; g2 = 11; g1 = 5 }))

pub record Other : Type 0 where
  pub first_byte_two : read_answer (2 ∷ 42 ∷ 87 ∷ 41 ∷ 23 ∷ 10 ∷ 17 ∷ 5 ∷ 12 ∷ 200 ∷ 1 ∷ []) ≡ Err OutOfRange
  pub unvoiced_with_pitch : read_answer (0 ∷ 42 ∷ 90 ∷ 41 ∷ 23 ∷ 10 ∷ 11 ∷ 5 ∷ 0 ∷ 0 ∷ 0 ∷ []) ≡ Err OutOfRange
  pub unvoiced_with_flag : read_answer (0 ∷ 0 ∷ 90 ∷ 41 ∷ 23 ∷ 10 ∷ 11 ∷ 5 ∷ 0 ∷ 0 ∷ 1 ∷ []) ≡ Err OutOfRange
  pub ten_bytes : read_answer (0 ∷ 0 ∷ 90 ∷ 41 ∷ 23 ∷ 10 ∷ 11 ∷ 5 ∷ 0 ∷ 0 ∷ []) ≡ Err OutOfRange
  pub twelve_bytes : read_answer (0 ∷ 0 ∷ 90 ∷ 41 ∷ 23 ∷ 10 ∷ 11 ∷ 5 ∷ 0 ∷ 0 ∷ 0 ∷ 0 ∷ []) ≡ Err OutOfRange
  pub no_bytes : read_answer [] ≡ Err OutOfRange
