-- Document 01, "Parameter sets": the ranges of a set's indices.
use Rattle.std.specs.Prelude.{Bool, not, ◌&&◌, ltb, eqb}
use Rattle.sets.specs.declared.Indices.{Indices}
use Rattle.sets.specs.declared.Voicing.{Voicing}
use Rattle.sets.specs.declared.ParameterSet.{ParameterSet}
use Rattle.sets.specs.declared.ParameterSet.TheVariants.{Unvoiced, Voiced}

-- the six indices of a set
abbrev pub indices_in : ParameterSet → Indices
indices_in (Unvoiced x) = x
indices_in (Voiced x v) = x

-- the ranges of the six: four LSF stages of seven, six, six and six bits (5.3.4), G2 of five bits and G1 of three (5.3.3)
abbrev pub indices_fit : Indices → Bool
indices_fit x = ltb x.l1 128 && ltb x.l2 64 && ltb x.l3 64 && ltb x.l4 64 && ltb x.g2 32 && ltb x.g1 8

-- and of the four of a voiced set: 99 pitches (5.3.1), four bandpass bits (5.3.2), eight bits of Fourier index (5.3.5), a flag of one bit (5.3.6)
abbrev pub voicing_fits : Voicing → Bool
voicing_fits v = ltb v.pitch 99 && ltb v.bandpass 16 && ltb v.fourier 256 && ltb v.aperiodic 2

-- every index in its range: what a receiver's record may hold
abbrev pub in_range : ParameterSet → Bool
in_range (Unvoiced x) = indices_fit x
in_range (Voiced x v) = indices_fit x && voicing_fits v

-- what a sender takes: bandpass bits 0001 are not valid (5.3.2)
abbrev pub sendable : ParameterSet → Bool
sendable (Unvoiced x) = indices_fit x
sendable (Voiced x v) = indices_fit x && voicing_fits v && not (eqb v.bandpass 1)
