-- Document 02, T-14: the eleven bytes of a set, and the set that bytes are those of. What ranges its indices have is asked elsewhere.
use Rattle.std.specs.Prelude.{ℕ, Bool, true, false, not, ◌&&◌, cond, List, [], ◌∷◌, eqb, get_or, Option, Result}
use Rattle.refusal.specs.Refusals.{first_refusal, unless}
use Rattle.refusal.specs.declared.Refusal.{Refusal}
use Rattle.refusal.specs.declared.Refusal.TheVariants.{OutOfRange}
use Rattle.sets.specs.declared.Indices.{Indices}
use Rattle.sets.specs.declared.Voicing.{Voicing}
use Rattle.sets.specs.declared.ParameterSet.{ParameterSet}
use Rattle.sets.specs.declared.ParameterSet.TheVariants.{Unvoiced, Voiced}

-- 1 if voiced, pitch index, L1 to L4, G2, G1, B, F, flag, with 0 for all that an unvoiced set lacks
abbrev pub bytes_of : ParameterSet → List ℕ
bytes_of (Unvoiced x) = 0 ∷ 0 ∷ x.l1 ∷ x.l2 ∷ x.l3 ∷ x.l4 ∷ x.g2 ∷ x.g1 ∷ 0 ∷ 0 ∷ 0 ∷ []
bytes_of (Voiced x v) = 1 ∷ v.pitch ∷ x.l1 ∷ x.l2 ∷ x.l3 ∷ x.l4 ∷ x.g2 ∷ x.g1 ∷ v.bandpass ∷ v.fourier ∷ v.aperiodic ∷ []

-- the set that the bytes would be those of, each index taken from its place
abbrev pub read_indices : List ℕ → Indices
read_indices bytes = record {
  l1 = get_or bytes 2 0;
  l2 = get_or bytes 3 0;
  l3 = get_or bytes 4 0;
  l4 = get_or bytes 5 0;
  g2 = get_or bytes 6 0;
  g1 = get_or bytes 7 0;
}

abbrev pub read_voicing : List ℕ → Voicing
read_voicing bytes = record {
  pitch = get_or bytes 1 0;
  bandpass = get_or bytes 8 0;
  fourier = get_or bytes 9 0;
  aperiodic = get_or bytes 10 0;
}

unfoldable pub set_in : List ℕ → ParameterSet
set_in bytes = cond (eqb (get_or bytes 0 0) 1) (Voiced (read_indices bytes) (read_voicing bytes)) (Unvoiced (read_indices bytes))

-- whether two lists of bytes are the same
abbrev pub same : List ℕ → List ℕ → Bool
same [] [] = true
same [] (y ∷ ys) = false
same (x ∷ xs) [] = false
same (x ∷ xs) (y ∷ ys) = eqb x y && same xs ys

-- the bytes are those of a set: then of the one that they would be those of
unfoldable pub is_set : List ℕ → Bool
is_set bytes = same bytes (bytes_of (set_in bytes))

-- the refusal: 5 for any other form
abbrev pub read_refusal : List ℕ → Option Refusal
read_refusal bytes = first_refusal ((not (is_set bytes), OutOfRange) ∷ [])

-- the answer: the set, or the refusal
unfoldable pub read_answer : List ℕ → Result ParameterSet Refusal
read_answer bytes = unless (read_refusal bytes) (set_in bytes)
