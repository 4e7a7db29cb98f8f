-- A set in range comes back from its own logical bits.
-- Assumes nothing.
use mathlib.Core.Path.{◌≡◌, ap, ◌∙◌}
use mathlib.Core.Bool.{Bool, false}
use lib.Dec.{T, lit≤}
use Rattle.bits.proofs.Tests.{and_left, and_right}
use Rattle.bits.proofs.Digits.{value_bits}
use Rattle.pitch.proofs.Codes.{index_back}
use Rattle.sets.specs.Sets.{indices_fit, voicing_fits, in_range}
use Rattle.frame.specs.Layout.{words, others, unvoiced_words, voiced_words, logical, logical_of}
use Rattle.reading.specs.Reading.{accepted_as, by_class, read}
use Rattle.bursts.specs.Flips.{Correctable}
use Rattle.sets.specs.declared.Indices.{Indices}
use Rattle.sets.specs.declared.Voicing.{Voicing}
use Rattle.sets.specs.declared.ParameterSet.{ParameterSet}
use Rattle.sets.specs.declared.ParameterSet.TheVariants.{Unvoiced, Voiced}
use Rattle.sets.proofs.Ranges.{IndexRanges, index_ranges, VoicingRanges, voicing_ranges}
use Rattle.frame.proofs.SharedIndices.{l1_back, g2_back, g1_back}
use Rattle.damage.proofs.Repair.{correctable_read}

-- no flips at all
none_correctable : Correctable (λ j. false)
none_correctable = record { a = lit≤ tt; b = lit≤ tt; c = lit≤ tt; d = lit≤ tt; pitch = lit≤ tt }

module _ (x : Indices) (sync : Bool) (r : IndexRanges x) where
  unvoiced_back : read (logical_of (Unvoiced x) sync) ≡ accepted_as (Unvoiced x) 0
  unfolding words others unvoiced_words logical
  unvoiced_back =
      correctable_read x sync (λ j. false) none_correctable r
      ∙ (λ i. accepted_as (Unvoiced (record {
        l1 = x.l1;
        l2 = value_bits 6 x.l2 r.l2 i;
        l3 = value_bits 6 x.l3 r.l3 i;
        l4 = value_bits 6 x.l4 r.l4 i;
        g2 = x.g2;
        g1 = x.g1;
      })) 0)

  voiced_back : (v : Voicing) → VoicingRanges v → read (logical_of (Voiced x v) sync) ≡ accepted_as (Voiced x v) 0
  unfolding words others voiced_words logical read
  voiced_back v s =
      ap (by_class (logical_of (Voiced x v) sync)) (index_back v.pitch s.pitch)
      ∙ (λ i. accepted_as (Voiced (record {
        l1 = l1_back x r.l1 i;
        l2 = value_bits 6 x.l2 r.l2 i;
        l3 = value_bits 6 x.l3 r.l3 i;
        l4 = value_bits 6 x.l4 r.l4 i;
        g2 = g2_back x r.g2 i;
        g1 = g1_back x r.g1 i;
      }) (record {
        pitch = v.pitch;
        bandpass = value_bits 4 v.bandpass s.bandpass i;
        fourier = value_bits 8 v.fourier s.fourier i;
        aperiodic = value_bits 1 v.aperiodic s.aperiodic i;
      })) 0)

-- the bits of a set in range are read as that set, with nothing repaired
pub read_back : (set : ParameterSet) (sync : Bool) → T (in_range set) → read (logical_of set sync) ≡ accepted_as set 0
read_back (Unvoiced x) sync t = unvoiced_back x sync (index_ranges x t)
read_back (Voiced x v) sync t =
    voiced_back x sync (index_ranges x (and_left (indices_fit x) (voicing_fits v) t)) v (voicing_ranges v (and_right (indices_fit x) (voicing_fits v) t))
