-- Document 01, "The four words" and "Order of the bits": the 54 logical bits of a set and a sync bit, and the frame they make.
use Rattle.std.specs.Prelude.{ℕ, Bool, false, List, [], ◌∷◌, ◌++◌, get_or}
use Rattle.bits.specs.Bits.{bit, bits}
use Rattle.pitch.specs.Pitch.{code_of, unvoiced_code}
use Rattle.hamming.specs.Word.{parity_of}
use Rattle.order.specs.Order.{frame_of}
use Rattle.sets.specs.declared.Indices.{Indices}
use Rattle.sets.specs.declared.Voicing.{Voicing}
use Rattle.sets.specs.declared.ParameterSet.{ParameterSet}
use Rattle.sets.specs.declared.ParameterSet.TheVariants.{Unvoiced, Voiced}

-- the data of word A: L1 bits 6 to 3
abbrev pub data_a : Indices → List Bool
data_a x = bit 6 x.l1 ∷ bit 5 x.l1 ∷ bit 4 x.l1 ∷ bit 3 x.l1 ∷ []

-- of word B: L1 bits 2 to 0
abbrev pub data_b : Indices → List Bool
data_b x = bit 2 x.l1 ∷ bit 1 x.l1 ∷ bit 0 x.l1 ∷ []

-- of word C: G2 bits 4 to 1
abbrev pub data_c : Indices → List Bool
data_c x = bit 4 x.g2 ∷ bit 3 x.g2 ∷ bit 2 x.g2 ∷ bit 1 x.g2 ∷ []

-- of word D: G2 bit 0, G1 bits 2 to 0
abbrev pub data_d : Indices → List Bool
data_d x = bit 0 x.g2 ∷ bit 2 x.g1 ∷ bit 1 x.g1 ∷ bit 0 x.g1 ∷ []

-- logical bits 0 to 27: each word's data, then what stands in its parity places
unfoldable pub words : Indices → List Bool → List Bool → List Bool → List Bool → List Bool
words x pa pb pc pd = (data_a x ++ pa) ++ ((data_b x ++ pb) ++ ((data_c x ++ pc) ++ (data_d x ++ pd)))

-- logical bits 28 to 53: the pitch code, L2, L3 and L4, most significant first, and the sync bit
unfoldable pub others : Indices → List Bool → Bool → List Bool
others x p sync = p ++ (bits 6 x.l2 ++ (bits 6 x.l3 ++ (bits 6 x.l4 ++ sync ∷ [])))

-- in an unvoiced frame the parity places have the parity of the data (5.4)
unfoldable pub unvoiced_words : Indices → List Bool
unvoiced_words x = words x (parity_of 8 (data_a x)) (parity_of 6 (data_b x)) (parity_of 7 (data_c x)) (parity_of 7 (data_d x))

-- in a voiced one they have the bandpass bits (A; 5.3.2), the Fourier index from the top (B, C, D; 5.3.5), and the aperiodic flag (D; 5.3.6)
unfoldable pub voiced_words : Indices → Voicing → List Bool
voiced_words x v =
    words x
    (bit 3 v.bandpass ∷ bit 2 v.bandpass ∷ bit 1 v.bandpass ∷ bit 0 v.bandpass ∷ [])
    (bit 7 v.fourier ∷ bit 6 v.fourier ∷ bit 5 v.fourier ∷ [])
    (bit 4 v.fourier ∷ bit 3 v.fourier ∷ bit 2 v.fourier ∷ [])
    (bit 1 v.fourier ∷ bit 0 v.fourier ∷ bit 0 v.aperiodic ∷ [])

-- the logical bits of a set; an unvoiced one has the unvoiced pitch code, a voiced one that of its index
unfoldable pub logical : ParameterSet → Bool → List Bool
logical (Unvoiced x) sync = unvoiced_words x ++ others x (bits 7 unvoiced_code) sync
logical (Voiced x v) sync = voiced_words x v ++ others x (bits 7 (code_of v.pitch)) sync

-- logical bit j
abbrev pub logical_of : ParameterSet → Bool → ℕ → Bool
logical_of set sync j = get_or (logical set sync) j false

-- the seven bytes of a set with a sync bit, in an order
abbrev pub frame : List ℕ → ParameterSet → Bool → List ℕ
frame ord set sync = frame_of ord (logical_of set sync)
