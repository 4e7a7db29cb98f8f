-- Which frames are erased: those with two ones in the pitch code, and under an unvoiced one those whose word A shows an even syndrome or
-- whose word B that of its spare; no others. Word A is checked first.
-- Assumes nothing.
use mathlib.Core.Path.{◌≡◌, refl, ap, ap₂, ◌∙◌}
use mathlib.Core.Bool.{Bool, true, false, true≢false, false≢true, ◌||◌, or-true}
use mathlib.Core.List.{List}
use Prim.Native.Nat.{ℕ}
use Rattle.std.specs.Prelude.{Option, None, Some, is_none}
use Rattle.pitch.specs.Pitch.{class_of}
use Rattle.pitch.specs.declared.PitchClass.{PitchClass}
use Rattle.pitch.specs.declared.PitchClass.TheVariants as class
use Rattle.hamming.specs.Word.{syndrome, spare_column, erases, decode}
use Rattle.hamming.specs.declared.Word.{Word}
use Rattle.hamming.proofs.Erasures.{decode_erased}
use Rattle.order.specs.Fields.{word_a, word_b, word_c, word_d, pitch_bits}
use Rattle.reading.specs.Reading.{from_words, by_class, read}

-- what is nothing is none
none_eq : {A : Type 0} (r : Option A) → is_none r ≡ true → r ≡ None
none_eq (Some x) e = absurd (false≢true e)
none_eq None e = refl

module _ (g : ℕ → Bool) where
  -- whether its words erase an unvoiced frame: A, then B; none of seven bits does
  abbrev pub words_erase : Bool
  words_erase = erases 8 (syndrome 8 (word_a g)) || erases 6 (syndrome 6 (word_b g))

  -- whether a frame whose pitch code has this class is erased
  abbrev pub erased_in : PitchClass → Bool
  erased_in class.Unvoiced = words_erase
  erased_in class.Erased = true
  erased_in (class.Voiced i) = false

  -- an unvoiced frame whose words C and D do not erase it
  words_erase_lem : (a b c d : Option Word) → is_none c ≡ false → is_none d ≡ false → is_none (from_words g a b c d) ≡ (is_none a || is_none b)
  words_erase_lem None b c d hc hd = refl
  words_erase_lem (Some a) None c d hc hd = refl
  words_erase_lem (Some a) (Some b) None d hc hd = absurd (true≢false hc)
  words_erase_lem (Some a) (Some b) (Some c) None hc hd = absurd (true≢false hd)
  words_erase_lem (Some a) (Some b) (Some c) (Some d) hc hd = refl

  -- a frame of each class
  class_erases : (c : PitchClass) → is_none (by_class g c) ≡ erased_in c
  class_erases class.Unvoiced =
      words_erase_lem (decode 8 (word_a g)) (decode 6 (word_b g)) (decode 7 (word_c g)) (decode 7 (word_d g))
      (decode_erased 7 (word_c g)) (decode_erased 7 (word_d g))
      ∙ ap₂ ◌||◌ (decode_erased 8 (word_a g)) (decode_erased 6 (word_b g))
  class_erases class.Erased = refl
  class_erases (class.Voiced i) = refl

  -- a frame is erased exactly where its pitch code or its words say so
  pub read_erased : is_none (read g) ≡ erased_in (class_of (pitch_bits g))
  unfolding read
  read_erased = class_erases (class_of (pitch_bits g))

  -- the spare's syndrome in word B erases an unvoiced frame
  pub spare_read : class_of (pitch_bits g) ≡ class.Unvoiced → syndrome 6 (word_b g) ≡ spare_column → read g ≡ None
  spare_read u e =
      none_eq (read g) (read_erased ∙ ap erased_in u ∙ ap (λ (z : List Bool). erases 8 (syndrome 8 (word_a g)) || erases 6 z) e ∙ or-true (erases 8 (syndrome 8 (word_a g))))

  -- word A is checked first: where its syndrome erases, the other three play no part
  pub a_first : erases 8 (syndrome 8 (word_a g)) ≡ true → (b c d : Option Word) → from_words g (decode 8 (word_a g)) b c d ≡ None
  a_first e b c d = ap (λ (a : Option Word). from_words g a b c d) (none_eq (decode 8 (word_a g)) (decode_erased 8 (word_a g) ∙ e))
