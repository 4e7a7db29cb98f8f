-- The logical bits of a set as one number, part by part.
-- Assumes nothing.
use mathlib.Core.Path.{◌≡◌, refl, sym, ap, ◌∙◌}
use mathlib.Core.Bool.{Bool, true, false}
use mathlib.Core.List.{List, [], ◌∷◌, ◌++◌}
use Prim.Native.Nat.{ℕ, ◌+◌, ◌*◌, ◌/◌, ◌%◌, ◌^◌, ◌≤◌, ◌<◌}
use native.Mathlib.Omega.{arith}
use mir.Val.{bool_byte}
use Rattle.bits.specs.Bits.{bit_num, value, bit, bits}
use Rattle.bits.proofs.Value.{value_join}
use Rattle.bits.proofs.Digits.{value_bits, value_bits_mod, bits_value, bits_mod, take_bits}
use Rattle.hamming.specs.Word.{parity_of}
use Rattle.frame.specs.Layout.{data_a, data_b, data_c, data_d, words, unvoiced_words, voiced_words, others}
use Rattle.sets.specs.declared.Indices.{Indices}
use Rattle.sets.specs.declared.Voicing.{Voicing}
use Rattle.frame.proofs.SharedIndices.{data_a_is, data_c_is, data_d_is, data_a_value, data_b_value, data_c_value, data_d_value}

-- a bit as a number
pub bit_is_number : (b : Bool) → bool_byte b ≡ bit_num b
bit_is_number true = refl
bit_is_number false = refl

pub bit_at_most_one : (b : Bool) → bool_byte b ≤ 1
bit_at_most_one true = omega arith
bit_at_most_one false = omega arith

module _ (x : Indices) where
  -- the four words, from numbers in their parity places
  pub words_value : x.l1 < 128 → x.g2 < 32 → x.g1 < 8 → (pa pb pc pd : ℕ) → pa < 16 → pb < 8 → pc < 8 → pd < 8
      → value (words x (bits 4 pa) (bits 3 pb) (bits 3 pc) (bits 3 pd))
      ≡ (((x.l1 / 8 * 16 + pa) * 64 + (x.l1 % 8 * 8 + pb)) * 128 + (x.g2 / 2 * 8 + pc)) * 128 + ((x.g2 % 2 * 8 + x.g1) * 8 + pd)
  unfolding words
  words_value h1 h2 h3 pa pb pc pd ha hb hc hd =
      let a = value_join (data_a x) (bits 4 pa) 4 (x.l1 / 8) pa refl (data_a_value x h1) (value_bits 4 pa ha) in
      let b = value_join (data_b x) (bits 3 pb) 3 (x.l1 % 8) pb refl (data_b_value x) (value_bits 3 pb hb) in
      let c = value_join (data_c x) (bits 3 pc) 3 (x.g2 / 2) pc refl (data_c_value x h2) (value_bits 3 pc hc) in
      let d = value_join (data_d x) (bits 3 pd) 3 (x.g2 % 2 * 8 + x.g1) pd refl (data_d_value x h3) (value_bits 3 pd hd) in
      let wd = data_d x ++ bits 3 pd in
      let wcd = (data_c x ++ bits 3 pc) ++ wd in
      value_join (data_a x ++ bits 4 pa) ((data_b x ++ bits 3 pb) ++ wcd) 20 _ _ refl a
      (value_join (data_b x ++ bits 3 pb) wcd 14 _ _ refl b (value_join (data_c x ++ bits 3 pc) wd 7 _ _ refl c d))
      ∙ omega arith

  -- the other bits
  pub others_value : x.l2 < 64 → x.l3 < 64 → x.l4 < 64 → (code : ℕ) (sync : Bool) → code < 128
      → value (others x (bits 7 code) sync) ≡ (code * 262144 + ((x.l2 * 64 + x.l3) * 64 + x.l4)) * 2 + bit_num sync
  unfolding others
  others_value h2 h3 h4 code sync h =
      let s = sync ∷ [] in
      let n : ℕ = bit_num sync in
      let e : value (sync ∷ []) ≡ n = omega arith in
      value_join (bits 7 code) (bits 6 x.l2 ++ (bits 6 x.l3 ++ (bits 6 x.l4 ++ s))) 19 code _ refl (value_bits 7 code h)
      (value_join (bits 6 x.l2) (bits 6 x.l3 ++ (bits 6 x.l4 ++ s)) 13 x.l2 _ refl (value_bits 6 x.l2 h2)
      (value_join (bits 6 x.l3) (bits 6 x.l4 ++ s) 7 x.l3 _ refl (value_bits 6 x.l3 h3)
      (value_join (bits 6 x.l4) s 1 x.l4 n refl (value_bits 6 x.l4 h4) e)))
      ∙ omega arith

  -- the parity that the calls give is that of the data
  pub unvoiced_words_lem : x.g1 < 8 → (pa pb pc pd : ℕ) → pa ≡ value (parity_of 8 (bits 4 (x.l1 / 8))) → pb ≡ value (parity_of 6 (bits 3 x.l1))
      → pc ≡ value (parity_of 7 (bits 4 (x.g2 / 2)))
      → pd ≡ value (parity_of 7 (bits 4 (x.g2 % 2 * 8 + x.g1))) → words x (bits 4 pa) (bits 3 pb) (bits 3 pc) (bits 3 pd) ≡ unvoiced_words x
  unfolding unvoiced_words
  unvoiced_words_lem h pa pb pc pd ea eb ec ed i =
      words x
      ((ap (bits 4) ea ∙ bits_value 4 (parity_of 8 (bits 4 (x.l1 / 8))) refl ∙ ap (parity_of 8) (sym (data_a_is x))) i)
      ((ap (bits 3) eb ∙ bits_value 3 (parity_of 6 (data_b x)) refl) i)
      ((ap (bits 3) ec ∙ bits_value 3 (parity_of 7 (bits 4 (x.g2 / 2))) refl ∙ ap (parity_of 7) (sym (data_c_is x))) i)
      ((ap (bits 3) ed ∙ bits_value 3 (parity_of 7 (bits 4 (x.g2 % 2 * 8 + x.g1))) refl ∙ ap (parity_of 7) (sym (data_d_is x h))) i)

  -- the numbers that stand there in a voiced frame
  pub voiced_words_lem : (v : Voicing) → v.aperiodic < 2
      → words x (bits 4 v.bandpass) (bits 3 (v.fourier / 32)) (bits 3 (v.fourier / 4 % 8)) (bits 3 (v.fourier % 4 * 2 + v.aperiodic)) ≡ voiced_words x v
  unfolding voiced_words
  voiced_words_lem v h i =
      let f = v.fourier in
      let last = bit 1 f ∷ bit 0 f ∷ bit 0 v.aperiodic ∷ [] in
      words x (bits 4 v.bandpass) (sym (take_bits 3 5 f) i) ((bits_mod 3 (f / 4) ∙ sym (take_bits 3 2 f)) i)
      ((ap (bits 3) (sym (value_join (bits 2 f) (bits 1 v.aperiodic) 1 (f % 4) v.aperiodic refl (value_bits_mod 2 f)
      (value_bits 1 v.aperiodic h))) ∙ bits_value 3 last refl) i)

-- all 54 bits: the words stand above the other 26
pub logical_value : (a : List Bool) (x : Indices) (code : ℕ) (sync : Bool) (w o : ℕ) → w ≡ value a → o ≡ value (others x (bits 7 code) sync)
    → w * 2 ^ 26 + o ≡ value (a ++ others x (bits 7 code) sync)
unfolding others
logical_value a x code sync w o ew eo = sym (value_join a (others x (bits 7 code) sync) 26 w o refl (sym ew) (sym eo))
