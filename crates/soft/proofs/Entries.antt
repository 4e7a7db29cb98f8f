-- A price from the sums of the data bits and of the parity bits: which entries are added, and that they are the price.
-- Assumes nothing.
use mathlib.Core.Path.{◌≡◌, refl, sym, ap, ap₂, ◌∙◌, subst}
use mathlib.Core.Bool.{Bool}
use mathlib.Core.List.{List, [], ◌∷◌, ◌++◌, map}
use Prim.Native.Nat.{ℕ, zero, suc, ◌+◌, ◌^◌, ◌≤◌, ◌<◌}
use native.Mathlib.Nat.{lt_of_lt_of_le, add-zero}
use native.Mathlib.Omega.{arith}
use lib.Dec.{leb, leb→le}
use lib.Bits.{bit_xor, xor_lt}
use lib.ListN.{length, get_or, take, drop, set, length-map, length-drop}
use lib.Pow.{pow_mono}
use lib.Seq.{length-take-le}
use Rattle.bits.specs.Bits.{bits, cut}
use Rattle.bits.proofs.Value.{value_lt_at}
use Rattle.bits.proofs.Digits.{bits_length}
use Rattle.hamming.specs.Word.{check_bits, data_bits, parity_of, data_of}
use Rattle.hamming.proofs.Lengths.{lengths_at}
use Rattle.hamming.proofs.Words.{split_length, check_le, parity_length}
use Rattle.soft.specs.Choice.{weigh, code_words}
use Rattle.soft.specs.Prices.{price, SumsOf, price_of, parity_number, data_entry, parity_entry, entry_price, EntryFits}
use Rattle.soft.proofs.Splitting.{price_splits}

-- a sum at a number of k bits, where there are k prices
sum_at : (k : ℕ) (q sums : List ℕ) → length q ≡ k → SumsOf (map price q) sums → (e : ℕ) → e < 2 ^ k → (get_or sums e 0 ≡ weigh (map price q) (bits k e)) × (get_or sums e 0 ≤ 16324)
sum_at k q sums h s e b =
    let size : length (map price q) ≡ k = length-map q price ∙ h in
    let x = s e (subst (λ (j : ℕ). e < 2 ^ j) (sym size) b) in
    (x.0 ∙ ap (λ (j : ℕ). weigh (map price q) (bits j e)) size, x.1)

module _ (n : ℕ) (l : 6 ≤ n) (m : n ≤ 8) where
  -- at most four of a word's bits are data
  data_le : data_bits n ≤ 4
  data_le = leb→le _ _ (lengths_at (λ n. leb (data_bits n) 4) tt n l m)

  parity_lt : (u : ℕ) → parity_number n u < 2 ^ check_bits n
  parity_lt u =
      let d : List Bool = bits (data_bits n) u in
      value_lt_at (check_bits n) (parity_of n d) (parity_length n l m d (bits_length (data_bits n) u))

  -- at most sixteen code words
  pub code_words_le : code_words n ≤ 16
  code_words_le = pow_mono data_le

  -- what came, its data x and its parity y
  module _ (x y : ℕ) (hx : x < code_words n) (hy : y < 2 ^ check_bits n) where
    data_index : (u : ℕ) → u < code_words n → bit_xor x u < code_words n
    data_index u h = xor_lt (data_bits n) x u hx h

    parity_index : (u : ℕ) → bit_xor y (parity_number n u) < 2 ^ check_bits n
    parity_index u = xor_lt (check_bits n) y (parity_number n u) hy (parity_lt u)

-- what came of a word, its data x and its parity y, and the sums of the prices of either
pub record Received (n : ℕ) (q : List ℕ) (w : List Bool) (x y : ℕ) (ds ps : List ℕ) : Type 0 where
  pub least : 6 ≤ n
  pub most : n ≤ 8
  pub confidences : length q ≡ n
  pub places : length w ≡ n
  pub data_lt : x < code_words n
  pub parity_lt : y < 2 ^ check_bits n
  pub data_is : bits (data_bits n) x ≡ data_of n w
  pub parity_is : bits (check_bits n) y ≡ drop (data_bits n) w
  pub data_sums : SumsOf (map price (take (data_bits n) q)) ds
  pub parity_sums : SumsOf (map price (drop (data_bits n) q)) ps

module _ {n : ℕ} {q : List ℕ} {w : List Bool} {x y : ℕ} {ds ps : List ℕ} (r : Received n q w x y ds ps) (u : ℕ) (h : u < code_words n) where
  data_entry_is : (data_entry x ds u ≡ weigh (map price (take (data_bits n) q)) (bits (data_bits n) (bit_xor x u))) × (data_entry x ds u ≤ 16324)
  data_entry_is =
      let most = r.most in
      let size = r.confidences in
      sum_at (data_bits n) (take (data_bits n) q) ds (length-take-le (data_bits n) q (omega arith)) r.data_sums (bit_xor x u) (data_index n r.least r.most x y r.data_lt r.parity_lt u h)

  parity_entry_is : (parity_entry n y ps u ≡ weigh (map price (drop (data_bits n) q)) (bits (check_bits n) (bit_xor y (parity_number n u)))) × (parity_entry n y ps u ≤ 16324)
  parity_entry_is =
      let size : length (drop (data_bits n) q) ≡ check_bits n = length-drop (data_bits n) q ∙ omega (arith, r.confidences, split_length n r.least r.most) in
      sum_at (check_bits n) (drop (data_bits n) q) ps size r.parity_sums (bit_xor y (parity_number n u)) (parity_index n r.least r.most x y r.data_lt r.parity_lt u)

  -- there are such sums, and both together are the price
  pub entry_fits : EntryFits n x y ds ps u
  entry_fits = (
    lt_of_lt_of_le (data_index n r.least r.most x y r.data_lt r.parity_lt u h) (code_words_le n r.least r.most),
    lt_of_lt_of_le (parity_index n r.least r.most x y r.data_lt r.parity_lt u) (pow_mono (check_le n r.least r.most)),
    data_entry_is.1,
    parity_entry_is.1,
  )

  pub entry_is : entry_price n x y ds ps u ≡ price_of n q w u
  entry_is = ap₂ ◌+◌ data_entry_is.0 parity_entry_is.0 ∙ sym (price_splits n r.least r.most q w r.confidences r.places u x y (parity_number n u) r.data_is r.parity_is refl)

  pub price_le : price_of n q w u ≤ 32648
  price_le = omega (arith, entry_is, data_entry_is.1, parity_entry_is.1)

-- a sequence's values in front of a list, with one more stored
pub stored : {A : Type 0} (g : ℕ → A) (d : List A) (i j : ℕ) → j < length d → set (cut g i j ++ drop j d) j (g (i + j)) ≡ cut g i (suc j) ++ drop (suc j) d
stored g [] i j h = absurd (omega arith)
stored g (x ∷ d) i zero h = ap (λ (y : _). y ∷ d) (ap g (add-zero i))
stored g (x ∷ d) i (suc j) h =
    ap (λ (t : List _). g i ∷ t) (ap (λ (k : ℕ). set (cut g (suc i) j ++ drop j d) j (g k)) (omega arith) ∙ stored g d (suc i) j (omega arith))
