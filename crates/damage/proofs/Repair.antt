-- An unvoiced frame with correctable flips is read as sent in L1, G2 and G1, and its flips are counted; two flips in word A erase it.
-- Assumes nothing.
use mathlib.Core.Path.{◌≡◌, refl, sym, ap, ◌∙◌}
use mathlib.Core.Bool.{Bool, cond}
use Prim.Native.Nat.{ℕ, zero, suc, ◌+◌, ◌≤◌}
use native.Mathlib.Omega.{arith}
use lib.Dec.{eqb, lit≤}
use Rattle.std.specs.Prelude.{Option, None}
use Rattle.bits.specs.Bits.{◌⊻◌, ones, value, cut}
use Rattle.pitch.specs.Pitch.{class_of}
use Rattle.pitch.specs.declared.PitchClass.TheVariants as class
use Rattle.pitch.proofs.Damage.{unvoiced_stays, unvoiced_ones}
use Rattle.hamming.specs.Word.{read_as, decode}
use Rattle.hamming.specs.declared.Word.{Word}
use Rattle.hamming.proofs.Repairs.{decode_back, double_erases}
use Rattle.frame.specs.Layout.{data_a, data_b, data_c, data_d, words, others, unvoiced_words, logical, logical_of}
use Rattle.order.specs.Fields.{word_a, word_b, word_c, word_d, pitch_bits}
use Rattle.reading.specs.Reading.{pitch_repaired, accepted_as, from_words, by_class, read}
use Rattle.bursts.specs.Flips.{Correctable, protected_flips}
use Rattle.bursts.proofs.Flips.{protected_sum}
use Rattle.sets.specs.declared.Indices.{Indices}
use Rattle.sets.specs.declared.ParameterSet.TheVariants.{Unvoiced}
use Rattle.sets.proofs.Ranges.{IndexRanges}
use Rattle.frame.proofs.SharedIndices.{l1_back, g2_back, g1_back}

-- logical bits after flips
abbrev pub damaged : (ℕ → Bool) → (ℕ → Bool) → ℕ → Bool
damaged g fl j = g j ⊻ fl j

-- a count of at most 1 is 1 or 0
single_count : (n : ℕ) → n ≤ 1 → cond (eqb n 1) 1 0 ≡ n
single_count zero h = refl
single_count (suc zero) h = refl
single_count (suc (suc n)) h = absurd (omega arith)

module _ (x : Indices) (sync : Bool) (fl : ℕ → Bool) where
  -- the bits received
  abbrev got : ℕ → Bool
  got = damaged (logical_of (Unvoiced x) sync) fl

  -- the indices read: L2 to L4 as received, the others as sent
  abbrev pub seen : Indices
  seen = record { l1 = x.l1; l2 = value (cut got 35 6); l3 = value (cut got 41 6); l4 = value (cut got 47 6); g2 = x.g2; g1 = x.g1 }

  class_stays : ones (pitch_bits fl) ≤ 1 → class_of (pitch_bits got) ≡ class.Unvoiced
  unfolding words others unvoiced_words logical
  class_stays h = unvoiced_stays (pitch_bits fl) refl h

  module _ (k : Correctable fl) where
    word_a_lem : decode 8 (word_a got) ≡ read_as (value (data_a x)) (ones (word_a fl))
    unfolding words others unvoiced_words logical
    word_a_lem = decode_back 8 (lit≤ tt) (lit≤ tt) (data_a x) (word_a fl) refl refl k.a

    word_b_lem : decode 6 (word_b got) ≡ read_as (value (data_b x)) (ones (word_b fl))
    unfolding words others unvoiced_words logical
    word_b_lem = decode_back 6 (lit≤ tt) (lit≤ tt) (data_b x) (word_b fl) refl refl k.b

    word_c_lem : decode 7 (word_c got) ≡ read_as (value (data_c x)) (ones (word_c fl))
    unfolding words others unvoiced_words logical
    word_c_lem = decode_back 7 (lit≤ tt) (lit≤ tt) (data_c x) (word_c fl) refl refl k.c

    word_d_lem : decode 7 (word_d got) ≡ read_as (value (data_d x)) (ones (word_d fl))
    unfolding words others unvoiced_words logical
    word_d_lem = decode_back 7 (lit≤ tt) (lit≤ tt) (data_d x) (word_d fl) refl refl k.d

    pitch_count : pitch_repaired (pitch_bits got) ≡ ones (pitch_bits fl)
    unfolding words others unvoiced_words logical
    pitch_count = ap (λ (n : ℕ). cond (eqb n 1) 1 0) (unvoiced_ones (pitch_bits fl) refl k.pitch) ∙ single_count (ones (pitch_bits fl)) k.pitch

    flips_are : pitch_repaired (pitch_bits got) + ones (word_a fl) + ones (word_b fl) + ones (word_c fl) + ones (word_d fl) ≡ protected_flips fl
    flips_are =
        ap (λ (n : ℕ). n + ones (word_a fl) + ones (word_b fl) + ones (word_c fl) + ones (word_d fl)) pitch_count
        ∙ sym (protected_sum fl)

    pub correctable_read : IndexRanges x → read got ≡ accepted_as (Unvoiced seen) (protected_flips fl)
    unfolding read
    correctable_read v =
        ap (by_class got) (class_stays k.pitch)
        ∙ (λ i. from_words got (word_a_lem i) (word_b_lem i) (word_c_lem i) (word_d_lem i))
        ∙ (λ i. accepted_as (Unvoiced (record {
          l1 = l1_back x v.l1 i;
          l2 = value (cut got 35 6);
          l3 = value (cut got 41 6);
          l4 = value (cut got 47 6);
          g2 = g2_back x v.g2 i;
          g1 = g1_back x v.g1 i;
        })) (flips_are i))

  -- exactly two flips in word A under an unvoiced pitch code: erased
  pub double_read : ones (word_a fl) ≡ 2 → ones (pitch_bits fl) ≤ 1 → read got ≡ None
  unfolding words others unvoiced_words logical read
  double_read ha hp =
      ap (by_class got) (class_stays hp)
      ∙ ap (λ (r : Option Word). from_words got r (decode 6 (word_b got)) (decode 7 (word_c got)) (decode 7 (word_d got)))
      (double_erases (data_a x) (word_a fl) refl refl ha)
