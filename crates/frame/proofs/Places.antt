-- The parts of a packed frame stand where the order of the bits has them.
-- Assumes nothing.
use mathlib.Core.Path.{◌≡◌, refl}
use mathlib.Core.Bool.{Bool}
use mathlib.Core.List.{List, [], ◌∷◌, ◌++◌}
use Prim.Native.Nat.{ℕ}
use Rattle.bits.specs.Bits.{bit, bits}
use Rattle.pitch.specs.Pitch.{code_of, unvoiced_code}
use Rattle.hamming.specs.Word.{encode}
use Rattle.order.specs.Fields.{word_a, word_b, word_c, word_d, pitch_bits, l2_bits, l3_bits, l4_bits, sync_bit}
use Rattle.sets.specs.declared.Indices.{Indices}
use Rattle.sets.specs.declared.Voicing.{Voicing}
use Rattle.sets.specs.declared.ParameterSet.TheVariants.{Unvoiced, Voiced}
use Rattle.frame.specs.Layout.{data_a, data_b, data_c, data_d, words, others, unvoiced_words, voiced_words, logical, logical_of}

-- what logical bits have at the places of the pitch code, of L2 to L4 and of the sync bit
abbrev Others : (ℕ → Bool) → Indices → List Bool → Bool → Type 0
Others g x code sync =
    (pitch_bits g ≡ code) × (l2_bits g ≡ bits 6 x.l2) × (l3_bits g ≡ bits 6 x.l3) × (l4_bits g ≡ bits 6 x.l4) × (sync_bit g ≡ sync)

-- an unvoiced set: each word is its data and their parity
pub unvoiced_places : (x : Indices) (sync : Bool)
    → let g : ℕ → Bool = logical_of (Unvoiced x) sync in
    (word_a g ≡ encode 8 (data_a x)) × (word_b g ≡ encode 6 (data_b x)) × (word_c g ≡ encode 7 (data_c x)) × (word_d g ≡ encode 7 (data_d x))
    × Others g x (bits 7 unvoiced_code) sync
unfolding words others unvoiced_words logical
unvoiced_places x sync = (refl, refl, refl, refl, (refl, refl, refl, refl, refl))

-- a voiced set: each word is its data and what stands in its parity places
pub voiced_places : (x : Indices) (v : Voicing) (sync : Bool)
    → let g : ℕ → Bool = logical_of (Voiced x v) sync in
    (word_a g ≡ data_a x ++ bits 4 v.bandpass) × (word_b g ≡ data_b x ++ (bit 7 v.fourier ∷ bit 6 v.fourier ∷ bit 5 v.fourier ∷ []))
    × (word_c g ≡ data_c x ++ (bit 4 v.fourier ∷ bit 3 v.fourier ∷ bit 2 v.fourier ∷ []))
    × (word_d g ≡ data_d x ++ (bit 1 v.fourier ∷ bit 0 v.fourier ∷ bit 0 v.aperiodic ∷ [])) × Others g x (bits 7 (code_of v.pitch)) sync
unfolding words others voiced_words logical
voiced_places x v sync = (refl, refl, refl, refl, (refl, refl, refl, refl, refl))
