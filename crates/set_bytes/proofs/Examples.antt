-- The examples of sets in bytes, by computation.
-- Assumes nothing.
use mathlib.Core.Path.{refl}
use Rattle.set_bytes.specs.SetBytes.{set_in, is_set, read_answer}
use Rattle.set_bytes.specs.Examples.{Written, Read, Other}

pub written : Written
written = record { voiced_to_bytes = refl; unvoiced_to_bytes = refl }

pub read : Read
unfolding set_in is_set read_answer
read = record { voiced_set = refl; unvoiced_set = refl; out_of_range = refl }

pub other : Other
unfolding set_in is_set read_answer
other = record {
  first_byte_two = refl;
  unvoiced_with_pitch = refl;
  unvoiced_with_flag = refl;
  ten_bytes = refl;
  twelve_bytes = refl;
  no_bytes = refl;
}
