-- The range tests, index by index.
-- Assumes nothing.
use mathlib.Core.Bool.{not, ◌&&◌}
use mathlib.Core.List.{[], ◌∷◌}
use Prim.Native.Nat.{◌<◌}
use lib.Dec.{T, ltb, eqb, ltb→lt}
use borrow.Author.Tests.{lt-ltb}
use Rattle.bits.proofs.Tests.{and_left, chain_at}
use Rattle.sets.specs.Sets.{indices_in, indices_fit, voicing_fits, in_range, sendable}
use Rattle.sets.specs.declared.Indices.{Indices}
use Rattle.sets.specs.declared.Voicing.{Voicing}
use Rattle.sets.specs.declared.ParameterSet.{ParameterSet}
use Rattle.sets.specs.declared.ParameterSet.TheVariants.{Unvoiced, Voiced}

-- the ranges of the six indices of every set, as facts
pub record IndexRanges (x : Indices) : Type 0 where
  pub l1 : x.l1 < 128
  pub l2 : x.l2 < 64
  pub l3 : x.l3 < 64
  pub l4 : x.l4 < 64
  pub g2 : x.g2 < 32
  pub g1 : x.g1 < 8

-- and of the four of a voiced set
pub record VoicingRanges (v : Voicing) : Type 0 where
  pub pitch : v.pitch < 99
  pub bandpass : v.bandpass < 16
  pub fourier : v.fourier < 256
  pub aperiodic : v.aperiodic < 2

-- indices that pass the test are in their ranges
pub index_ranges : (x : Indices) → T (indices_fit x) → IndexRanges x
index_ranges x t =
    let at = chain_at (ltb x.l1 128) (ltb x.l2 64 ∷ ltb x.l3 64 ∷ ltb x.l4 64 ∷ ltb x.g2 32 ∷ ltb x.g1 8 ∷ []) t in
    record {
      l1 = ltb→lt x.l1 128 (at 0);
      l2 = ltb→lt x.l2 64 (at 1);
      l3 = ltb→lt x.l3 64 (at 2);
      l4 = ltb→lt x.l4 64 (at 3);
      g2 = ltb→lt x.g2 32 (at 4);
      g1 = ltb→lt x.g1 8 (at 5);
    }

-- so are those of the voicing
pub voicing_ranges : (v : Voicing) → T (voicing_fits v) → VoicingRanges v
voicing_ranges v t =
    let at = chain_at (ltb v.pitch 99) (ltb v.bandpass 16 ∷ ltb v.fourier 256 ∷ ltb v.aperiodic 2 ∷ []) t in
    record {
      pitch = ltb→lt v.pitch 99 (at 0);
      bandpass = ltb→lt v.bandpass 16 (at 1);
      fourier = ltb→lt v.fourier 256 (at 2);
      aperiodic = ltb→lt v.aperiodic 2 (at 3);
    }

-- indices in their ranges pass the test
pub index_fits_lem : (x : Indices) → IndexRanges x → T (indices_fit x)
index_fits_lem x r =
    rw (
      lt-ltb x.l1 128 r.l1,
      lt-ltb x.l2 64 r.l2,
      lt-ltb x.l3 64 r.l3,
      lt-ltb x.l4 64 r.l4,
      lt-ltb x.g2 32 r.g2,
      lt-ltb x.g1 8 r.g1,
    ) tt

-- so does the voicing
pub voicing_fits_lem : (v : Voicing) → VoicingRanges v → T (voicing_fits v)
voicing_fits_lem v r =
    rw (
      lt-ltb v.pitch 99 r.pitch,
      lt-ltb v.bandpass 16 r.bandpass,
      lt-ltb v.fourier 256 r.fourier,
      lt-ltb v.aperiodic 2 r.aperiodic,
    ) tt

-- what a sender takes is in range
pub sendable_fits : (set : ParameterSet) → T (sendable set) → T (in_range set)
sendable_fits (Unvoiced x) t = t
sendable_fits (Voiced x v) t = and_left (indices_fit x && voicing_fits v) (not (eqb v.bandpass 1)) t

-- the six indices of a set in range are in theirs
pub set_ranges : (set : ParameterSet) → T (in_range set) → IndexRanges (indices_in set)
set_ranges (Unvoiced x) t = index_ranges x t
set_ranges (Voiced x v) t = index_ranges x (and_left (indices_fit x) (voicing_fits v) t)
