-- Whatever logical bits are read as is in range, so a receiver's record can hold it.
-- Assumes nothing.
use mathlib.Core.Path.{refl}
use mathlib.Core.Bool.{Bool}
use mathlib.Core.List.{◌++◌}
use Prim.Native.Nat.{ℕ, ◌<◌}
use native.Mathlib.Omega.{arith}
use lib.Dec.{T, lit≤, ltb→lt}
use Rattle.std.specs.Prelude.{Option, None, Some}
use Rattle.bits.specs.Bits.{value, cut}
use Rattle.bits.proofs.Tests.{and_both}
use Rattle.bits.proofs.Value.{value_lt_at}
use Rattle.pitch.specs.Pitch.{class_of}
use Rattle.pitch.specs.declared.PitchClass.{PitchClass}
use Rattle.pitch.specs.declared.PitchClass.TheVariants as class
use Rattle.pitch.proofs.Codes.{index_fits, class_index_fits}
use Rattle.hamming.specs.Word.{decode}
use Rattle.hamming.proofs.Bounds.{decode_bounded}
use Rattle.hamming.specs.declared.Word.{Word}
use Rattle.order.specs.Fields.{word_a, word_b, word_c, word_d, pitch_bits}
use Rattle.sets.specs.Sets.{indices_fit, voicing_fits}
use Rattle.reading.specs.Reading.{indices_of, voicing_of, from_words, by_class, read, reading_fits}
use Rattle.sets.proofs.Ranges.{index_fits_lem, voicing_fits_lem}
use Rattle.reading.proofs.Outcomes.{Outcomes}

module _ (g : ℕ → Bool) where
  -- the indices from data within their bounds
  indices_fit_lem : (a b c d : ℕ) → a < 16 → b < 8 → c < 16 → d < 16 → T (indices_fit (indices_of g a b c d))
  indices_fit_lem a b c d ha hb hc hd =
      index_fits_lem (indices_of g a b c d) (record {
        l1 = omega arith;
        l2 = value_lt_at 6 (cut g 35 6) refl;
        l3 = value_lt_at 6 (cut g 41 6) refl;
        l4 = value_lt_at 6 (cut g 47 6) refl;
        g2 = omega arith;
        g1 = omega arith;
      })

  -- the voicing with an index below 99
  voicing_fit : (i : ℕ) → i < 99 → T (voicing_fits (voicing_of g i))
  voicing_fit i h =
      voicing_fits_lem (voicing_of g i) (record {
        pitch = h;
        bandpass = value_lt_at 4 (cut g 4 4) refl;
        fourier = value_lt_at 8 (cut g 11 3 ++ (cut g 18 3 ++ cut g 25 2)) refl;
        aperiodic = value_lt_at 1 (cut g 27 1) refl;
      })

  -- an unvoiced frame from outcomes that fit its words
  pub words_fit : (a b c d : Option Word) → Outcomes a b c d → T (reading_fits (from_words g a b c d))
  words_fit None b c d o = tt
  words_fit (Some a) None c d o = tt
  words_fit (Some a) (Some b) None d o = tt
  words_fit (Some a) (Some b) (Some c) None o = tt
  words_fit (Some a) (Some b) (Some c) (Some d) o = indices_fit_lem a.data b.data c.data d.data o.0.0 o.1.0 o.2.0 o.3.0

  -- a frame of each class
  pub class_fits : (c : PitchClass) → T (index_fits c) → T (reading_fits (by_class g c))
  class_fits class.Unvoiced t =
      words_fit (decode 8 (word_a g)) (decode 6 (word_b g)) (decode 7 (word_c g)) (decode 7 (word_d g))
      (decode_bounded 8 (word_a g) (lit≤ tt) refl, decode_bounded 6 (word_b g) (lit≤ tt) refl, decode_bounded 7 (word_c g) (lit≤ tt) refl, decode_bounded 7 (word_d g) (lit≤ tt) refl)
  class_fits class.Erased t = tt
  class_fits (class.Voiced i) t =
      let x = indices_of g (value (cut g 0 4)) (value (cut g 8 3)) (value (cut g 14 4)) (value (cut g 21 4)) in
      and_both (indices_fit x) (voicing_fits (voicing_of g i))
      (indices_fit_lem _ _ _ _ (value_lt_at 4 (cut g 0 4) refl) (value_lt_at 3 (cut g 8 3) refl) (value_lt_at 4 (cut g 14 4) refl) (value_lt_at 4 (cut g 21 4) refl))
      (voicing_fit i (ltb→lt i 99 t))

  -- what is read is in range
  pub read_fits : T (reading_fits (read g))
  unfolding read
  read_fits = class_fits (class_of (pitch_bits g)) (class_index_fits (pitch_bits g) refl)
