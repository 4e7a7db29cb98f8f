-- The price of a code word is that of its data bits and that of its parity bits, whatever the word's length.
-- Assumes nothing.
use mathlib.Core.Path.{◌≡◌, sym, ap, ap₂, ◌∙◌}
use mathlib.Core.Bool.{Bool}
use mathlib.Core.List.{List, ◌++◌, map, map-append}
use Prim.Native.Nat.{ℕ, ◌+◌, ◌≤◌}
use native.Mathlib.Omega.{arith}
use lib.ListN.{length, take, drop, length-map, take-append-drop}
use lib.Seq.{length-take-le}
use lib.Bits.{bit_xor}
use Rattle.bits.specs.Bits.{◌⊕◌, value, bits}
use Rattle.bits.proofs.Count.{⊕_length}
use Rattle.bits.proofs.Digits.{bits_length, bits_value}
use Rattle.hamming.specs.Word.{check_bits, data_bits, parity_of, data_of}
use Rattle.hamming.proofs.Bounds.{data_length}
use Rattle.hamming.proofs.Sums.{xor_bits}
use Rattle.hamming.proofs.Words.{parity_length}
use Rattle.soft.specs.Choice.{weigh, code_word, differing}
use Rattle.soft.specs.Prices.{price, price_of}
use Rattle.soft.proofs.Weights.{weigh_append, weigh_priced, sum_append}

-- as many places are compared as the word has
pub differing_length : (n : ℕ) (w : List Bool) (u : ℕ) → length w ≡ n → length (differing n w u) ≡ n
differing_length n w u h = ⊕_length w (code_word n u) ∙ h

-- prices in two parts
prices_append : (q r : List ℕ) (d e : List Bool) → length q ≡ length d → weigh (map price (q ++ r)) (d ++ e) ≡ weigh (map price q) d + weigh (map price r) e
prices_append q r d e h =
    ap (λ (l : List ℕ). weigh l (d ++ e)) (map-append price q r) ∙ weigh_append (map price q) (map price r) d e (length-map q price ∙ h)

module _ (n : ℕ) (l : 6 ≤ n) (m : n ≤ 8) (q : List ℕ) (w : List Bool) (hq : length q ≡ n) (hw : length w ≡ n) where
  -- the price of a code word is that of the places that differ
  price_weighs : (u : ℕ) → price_of n q w u ≡ weigh (map price q) (differing n w u)
  price_weighs u = sym (weigh_priced q (differing n w u) (hq ∙ sym (differing_length n w u hw)))

  -- those are the data bits that differ, and the parity bits
  differing_splits : (u : ℕ) → differing n w u ≡ (data_of n w ⊕ bits (data_bits n) u) ++ (drop (data_bits n) w ⊕ parity_of n (bits (data_bits n) u))
  differing_splits u =
      ap (λ (v : List Bool). v ⊕ code_word n u) (sym (take-append-drop (data_bits n) w))
      ∙ sum_append (data_of n w) (drop (data_bits n) w) (bits (data_bits n) u) _ (data_length n w hw ∙ sym (bits_length (data_bits n) u))

  -- by the numbers of what came: x its data, y its parity; and p the parity of the code word
  pub price_splits : (u x y p : ℕ) → bits (data_bits n) x ≡ data_of n w → bits (check_bits n) y ≡ drop (data_bits n) w → p ≡ value (parity_of n (bits (data_bits n) u))
      → price_of n q w u ≡ weigh (map price (take (data_bits n) q)) (bits (data_bits n) (bit_xor x u)) + weigh (map price (drop (data_bits n) q)) (bits (check_bits n) (bit_xor y p))
  price_splits u x y p ex ey ep =
      let d : List Bool = bits (data_bits n) u in
      let ud : bits (data_bits n) (bit_xor x u) ≡ data_of n w ⊕ d = xor_bits (data_bits n) x u ∙ ap (λ (v : List Bool). v ⊕ d) ex in
      let sent : bits (check_bits n) p ≡ parity_of n d = ap (bits (check_bits n)) ep ∙ bits_value (check_bits n) (parity_of n d) (parity_length n l m d (bits_length (data_bits n) u)) in
      let up : bits (check_bits n) (bit_xor y p) ≡ drop (data_bits n) w ⊕ parity_of n d = xor_bits (check_bits n) y p ∙ ap₂ ◌⊕◌ ey sent in
      let size : length (take (data_bits n) q) ≡ length (data_of n w ⊕ d) =
      length-take-le (data_bits n) q (omega arith) ∙ sym (⊕_length (data_of n w) d ∙ data_length n w hw) in
      price_weighs u
      ∙ ap₂ (λ (r : List ℕ) (v : List Bool). weigh (map price r) v) (sym (take-append-drop (data_bits n) q)) (differing_splits u)
      ∙ prices_append (take (data_bits n) q) (drop (data_bits n) q) _ _ size
      ∙ ap₂ (λ (a b : List Bool). weigh (map price (take (data_bits n) q)) a + weigh (map price (drop (data_bits n) q)) b) (sym ud) (sym up)
