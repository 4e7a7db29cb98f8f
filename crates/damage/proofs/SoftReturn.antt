-- A set in range comes back from its own logical bits with any confidences above 0, and its frame is then received as without confidences.
-- Assumes nothing.
use mathlib.Core.Path.{◌≡◌, refl, sym, ap, ◌∙◌}
use mathlib.Core.Bool.{Bool, false}
use mathlib.Core.List.{List, [], ◌∷◌}
use Prim.Native.Nat.{ℕ, zero, suc, ◌+◌, ◌≤◌, ◌<◌}
use native.Mathlib.Omega.{arith}
use lib.Dec.{T, lit≤}
use lib.ListN.{length, get_or, replicate}
use Rattle.bits.specs.Bits.{value, cut}
use Rattle.bits.specs.Lists.{Every}
use Rattle.bits.proofs.Cut.{cut_length}
use Rattle.bits.proofs.Tests.{and_right}
use Rattle.pitch.specs.Pitch.{class_of}
use Rattle.pitch.specs.declared.PitchClass.{PitchClass}
use Rattle.pitch.specs.declared.PitchClass.TheVariants as class
use Rattle.pitch.proofs.Codes.{index_back}
use Rattle.hamming.specs.Word.{data_bits, encode, read_as, decode}
use Rattle.hamming.proofs.Repairs.{decode_back}
use Rattle.order.specs.Order.{Order, place_of, frame_of, logical_bit}
use Rattle.order.specs.Fields.{word_a, word_b, word_c, word_d, pitch_bits}
use Rattle.order.proofs.Frames.{sent_bit}
use Rattle.order.proofs.Places.{place_lt}
use Rattle.sets.specs.Sets.{indices_fit, voicing_fits, in_range}
use Rattle.sets.specs.declared.Indices.{Indices}
use Rattle.sets.specs.declared.ParameterSet.{ParameterSet}
use Rattle.sets.specs.declared.ParameterSet.TheVariants.{Unvoiced, Voiced}
use Rattle.sets.proofs.Ranges.{voicing_ranges}
use Rattle.frame.specs.Layout.{data_a, data_b, data_c, data_d, words, others, unvoiced_words, voiced_words, logical, logical_of, frame}
use Rattle.soft.specs.Choice.{choose}
use Rattle.soft.proofs.Claims.{claims}
use Rattle.reading.specs.Reading.{from_words, by_class, read}
use Rattle.order.specs.SoftTaking.{confidence_of}
use Rattle.reading.specs.SoftReading.{soft_by_class, soft_read}
use Rattle.reading.proofs.Extent.{read_ext}
use Rattle.reading.proofs.SoftExtent.{soft_ext}
use Rattle.records.specs.declared.Record.{Record}
use Rattle.receiver.specs.Receiving.{receive}
use Rattle.receiver.specs.SoftReceiving.{soft_receive}
use Rattle.receiver.proofs.SoftClaims.{alike}

-- what is claimed of every number holds of one of them
every_get_or : (P : ℕ → Type 0) (l : List ℕ) → Every P l → (i : ℕ) → i < length l → P (get_or l i 0)
every_get_or P [] t i h = absurd (omega arith)
every_get_or P (x ∷ l) t zero h = t.0
every_get_or P (x ∷ l) t (suc i) h = every_get_or P l t.1 i (omega arith)

-- the confidences of a part
every_cut : (q : ℕ → ℕ) (i n : ℕ) → ((j : ℕ) → j < i + n → 0 < q j) → Every (λ x. 0 < x) (cut q i n)
every_cut q i zero h = tt
every_cut q i (suc n) h = (h i (omega arith), every_cut q (suc i) n (λ j b. h j (omega arith)))

module _ (q : ℕ → ℕ) (above : (j : ℕ) → j < 28 → 0 < q j) where
  -- a word as sent gives its data back
  sent_word : (i n : ℕ) → 6 ≤ n → n ≤ 8 → i + n ≤ 28 → (d : List Bool) → length d ≡ data_bits n → choose n (cut q i n) (encode n d) ≡ read_as (value d) 0
  sent_word i n l m b d h = claims.sent n l m (cut q i n) (cut_length q i n) (every_cut q i n (λ j c. above j (omega arith))) d h

  module _ (x : Indices) (sync : Bool) where
    abbrev g : ℕ → Bool
    g = logical_of (Unvoiced x) sync

    -- so each word is read as without confidences
    word_a_lem : choose 8 (word_a q) (word_a g) ≡ decode 8 (word_a g)
    unfolding words others unvoiced_words logical
    word_a_lem =
        sent_word 0 8 (lit≤ tt) (lit≤ tt) (lit≤ tt) (data_a x) refl ∙ sym (decode_back 8 (lit≤ tt) (lit≤ tt) (data_a x) (replicate 8 false) refl refl (lit≤ tt))

    word_b_lem : choose 6 (word_b q) (word_b g) ≡ decode 6 (word_b g)
    unfolding words others unvoiced_words logical
    word_b_lem =
        sent_word 8 6 (lit≤ tt) (lit≤ tt) (lit≤ tt) (data_b x) refl ∙ sym (decode_back 6 (lit≤ tt) (lit≤ tt) (data_b x) (replicate 6 false) refl refl (lit≤ tt))

    word_c_lem : choose 7 (word_c q) (word_c g) ≡ decode 7 (word_c g)
    unfolding words others unvoiced_words logical
    word_c_lem =
        sent_word 14 7 (lit≤ tt) (lit≤ tt) (lit≤ tt) (data_c x) refl ∙ sym (decode_back 7 (lit≤ tt) (lit≤ tt) (data_c x) (replicate 7 false) refl refl (lit≤ tt))

    word_d_lem : choose 7 (word_d q) (word_d g) ≡ decode 7 (word_d g)
    unfolding words others unvoiced_words logical
    word_d_lem =
        sent_word 21 7 (lit≤ tt) (lit≤ tt) (lit≤ tt) (data_d x) refl ∙ sym (decode_back 7 (lit≤ tt) (lit≤ tt) (data_d x) (replicate 7 false) refl refl (lit≤ tt))

    unvoiced_alike : (c : PitchClass) → soft_by_class g q c ≡ by_class g c
    unvoiced_alike class.Unvoiced = λ t. from_words g (word_a_lem t) (word_b_lem t) (word_c_lem t) (word_d_lem t)
    unvoiced_alike class.Erased = refl
    unvoiced_alike (class.Voiced i) = refl

  -- the bits of a set are read as without confidences
  set_alike : (set : ParameterSet) (sync : Bool) → T (in_range set) → soft_read (logical_of set sync) q ≡ read (logical_of set sync)
  unfolding soft_read read words others voiced_words logical
  set_alike (Unvoiced x) sync t = unvoiced_alike x sync (class_of (pitch_bits (logical_of (Unvoiced x) sync)))
  set_alike (Voiced x v) sync t =
      let c = index_back v.pitch (voicing_ranges v (and_right (indices_fit x) (voicing_fits v) t)).pitch in
      ap (soft_by_class (logical_of (Voiced x v) sync) q) c ∙ sym (ap (by_class (logical_of (Voiced x v) sync)) c)

module _ (ord : List ℕ) (o : Order ord) (confidences : List ℕ) (size : length confidences ≡ 54) (above : Every (λ x. 0 < x) confidences) where
  abbrev q : ℕ → ℕ
  q = confidence_of ord confidences

  all_above : (j : ℕ) → j < 28 → 0 < q j
  all_above j h = every_get_or (λ x. 0 < x) confidences above (place_of ord j) (omega (arith, place_lt ord o j (omega arith), size))

  -- an undamaged frame of a set in range is received as without confidences, from any record
  pub undamaged_alike : (r : Record) (set : ParameterSet) (sync : Bool) → T (in_range set)
      → soft_receive ord r (frame ord set sync) confidences ≡ receive ord r (frame ord set sync)
  undamaged_alike r set sync t =
      let g : ℕ → Bool = logical_of set sync in
      let got : ℕ → Bool = logical_bit ord (frame_of ord g) in
      let same : (j : ℕ) → j < 53 → got j ≡ g j = λ j h. sent_bit ord o g j (omega arith) in
      alike ord r (frame ord set sync) confidences size
      (soft_ext got g same q q (λ j h. refl) ∙ set_alike q all_above set sync t ∙ sym (read_ext got g same))
