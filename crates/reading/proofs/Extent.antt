-- What is read depends on logical bits 0 to 52 alone: the sync bit is not among them.
-- Assumes nothing.
use mathlib.Core.Path.{◌≡◌, refl, ap, ◌∙◌}
use mathlib.Core.Bool.{Bool}
use mathlib.Core.List.{List, ◌++◌}
use Prim.Native.Nat.{ℕ, ◌+◌, ◌*◌, ◌/◌, ◌%◌, ◌≤◌, ◌<◌}
use native.Mathlib.Omega.{arith}
use lib.Dec.{lit≤}
use Rattle.std.specs.Prelude.{Option, None, Some}
use Rattle.bits.specs.Bits.{value, cut}
use Rattle.bits.proofs.Cut.{cut_ext}
use Rattle.pitch.specs.Pitch.{class_of}
use Rattle.pitch.specs.declared.PitchClass.{PitchClass}
use Rattle.pitch.specs.declared.PitchClass.TheVariants as class
use Rattle.hamming.specs.Word.{decode}
use Rattle.hamming.specs.declared.Word.{Word}
use Rattle.order.specs.Fields.{pitch_bits}
use Rattle.reading.specs.Reading.{indices_of, voicing_of, pitch_repaired, accepted_as, from_words, by_class, read}
use Rattle.sets.specs.declared.ParameterSet.TheVariants.{Unvoiced, Voiced}

module _ (g h : ℕ → Bool) (e : (j : ℕ) → j < 53 → g j ≡ h j) where
  -- a part of them
  pub cuts : (i n : ℕ) → i + n ≤ 53 → cut g i n ≡ cut h i n
  cuts i n l = cut_ext g h i n (λ j a b. e j (omega arith))

  indices_ext : (a b c d : ℕ) → indices_of g a b c d ≡ indices_of h a b c d
  indices_ext a b c d i = record {
    l1 = a * 8 + b;
    l2 = value (cuts 35 6 (lit≤ tt) i);
    l3 = value (cuts 41 6 (lit≤ tt) i);
    l4 = value (cuts 47 6 (lit≤ tt) i);
    g2 = c * 2 + d / 8;
    g1 = d % 8;
  }

  voicing_ext : (p : ℕ) → voicing_of g p ≡ voicing_of h p
  voicing_ext p i = record {
    pitch = p;
    bandpass = value (cuts 4 4 (lit≤ tt) i);
    fourier = value (cuts 11 3 (lit≤ tt) i ++ (cuts 18 3 (lit≤ tt) i ++ cuts 25 2 (lit≤ tt) i));
    aperiodic = value (cuts 27 1 (lit≤ tt) i);
  }

  repaired_ext : pitch_repaired (pitch_bits g) ≡ pitch_repaired (pitch_bits h)
  repaired_ext = ap pitch_repaired (cuts 28 7 (lit≤ tt))

  -- from the outcomes of the words
  pub words_ext : (a b c d : Option Word) → from_words g a b c d ≡ from_words h a b c d
  words_ext None b c d = refl
  words_ext (Some a) None c d = refl
  words_ext (Some a) (Some b) None d = refl
  words_ext (Some a) (Some b) (Some c) None = refl
  words_ext (Some a) (Some b) (Some c) (Some d) =
      λ t. accepted_as (Unvoiced (indices_ext a.data b.data c.data d.data t)) (repaired_ext t + a.repaired + b.repaired + c.repaired + d.repaired)

  -- by the class of the pitch code
  pub class_ext : (c : PitchClass) → by_class g c ≡ by_class h c
  class_ext class.Unvoiced =
      words_ext (decode 8 (cut g 0 8)) (decode 6 (cut g 8 6)) (decode 7 (cut g 14 7)) (decode 7 (cut g 21 7))
      ∙ (λ t. from_words h (decode 8 (cuts 0 8 (lit≤ tt) t)) (decode 6 (cuts 8 6 (lit≤ tt) t)) (decode 7 (cuts 14 7 (lit≤ tt) t))
      (decode 7 (cuts 21 7 (lit≤ tt) t)))
  class_ext class.Erased = refl
  class_ext (class.Voiced p) =
      (λ t. accepted_as (Voiced (indices_ext (value (cut g 0 4)) (value (cut g 8 3)) (value (cut g 14 4)) (value (cut g 21 4)) t) (voicing_ext p t)) 0)
      ∙ (λ t. accepted_as (Voiced (indices_of h (value (cuts 0 4 (lit≤ tt) t)) (value (cuts 8 3 (lit≤ tt) t)) (value (cuts 14 4 (lit≤ tt) t))
      (value (cuts 21 4 (lit≤ tt) t))) (voicing_of h p)) 0)

  -- bits that agree from 0 to 52 are read alike
  pub read_ext : read g ≡ read h
  unfolding read
  read_ext = class_ext (class_of (pitch_bits g)) ∙ ap (λ (p : List Bool). by_class h (class_of p)) (cuts 28 7 (lit≤ tt))
