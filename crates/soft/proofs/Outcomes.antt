-- What is taken by the prices of a word's code words is what the choice says.
-- Assumes nothing.
use mathlib.Core.Path.{◌≡◌, sym, ap, ◌∙◌}
use mathlib.Core.Bool.{Bool, false, cond, ◌&&◌}
use mathlib.Core.List.{List, [], ◌∷◌, ◌++◌}
use Prim.Native.Nat.{ℕ, ◌+◌, ◌*◌, ◌-◌, ◌/◌, ◌%◌, ◌≤◌, ◌<◌}
use native.Mathlib.Nat.{zero-add}
use native.Mathlib.Omega.{arith}
use native.Mathlib.Decide.{ℕ_discrete}
use lib.Dec.{eqb, leb}
use lib.ListN.{length, get_or, drop, replicate, get_or-replicate, get_or-append}
use lib.Seq.{get_or-append-add, get_or-drop}
use lib.Pow.{pow_pos}
use borrow.Author.Tests.{le-ltb, ne_eqb}
use Rattle.std.specs.Prelude.{None}
use Rattle.bits.specs.Bits.{ones, cut}
use Rattle.bits.proofs.Count.{ones_le}
use Rattle.bits.proofs.Cut.{cut_length, cut_at, cut_ext}
use Rattle.hamming.specs.Word.{data_bits, read_as}
use Rattle.soft.specs.Least.{least_by}
use Rattle.soft.specs.Choice.{code_words, differing, cost, key, chosen, choose}
use Rattle.soft.specs.Prices.{price_of, prices_of, PricesFit, cost_in, least_in, as_cheap, key_number}
use Rattle.soft.proofs.Least.{least_lt, least_ext, least_past}
use Rattle.soft.proofs.Keys.{key_in, cost_decides}
use Rattle.soft.proofs.Splitting.{differing_length}
use Rattle.soft.proofs.Entries.{code_words_le}
use Rattle.soft.proofs.Bounds.{chosen_lt}

-- past k numbers in front, the rest of sixteen
past_at : (front : List ℕ) (k u : ℕ) → length front ≡ k → k ≤ u → u < 16 → get_or (front ++ drop k (replicate 16 65535)) u 0 ≡ 65535
past_at front k u e h b =
    let rest : List ℕ = replicate 16 65535 in
    let there : get_or (front ++ drop k rest) u 0 ≡ get_or (front ++ drop k rest) (length front + (u - k)) 0 =
    ap (λ (j : ℕ). get_or (front ++ drop k rest) j 0) (omega arith) in
    let same : get_or rest (k + (u - k)) 0 ≡ get_or rest u 0 = ap (λ (j : ℕ). get_or rest j 0) (omega arith) in
    let inside : get_or (drop k rest) (u - k) 0 ≡ 65535 = get_or-drop k rest (u - k) 0 ∙ (same ∙ get_or-replicate 16 u 65535 0 b) in
    there ∙ (get_or-append-add front (drop k rest) (u - k) 0 ∙ inside)

module _ (n : ℕ) (l : 6 ≤ n) (m : n ≤ 8) (q : List ℕ) (w : List Bool) (hw : length w ≡ n) (fit : PricesFit n q w) where
  abbrev prices : List ℕ
  prices = prices_of n q w

  -- at most eight places differ
  differing_few : (u : ℕ) → ones (differing n w u) ≤ 8
  differing_few u = omega (arith, ones_le (differing n w u), differing_length n w u hw)

  -- the price at data u
  price_at : (u : ℕ) → u < code_words n → get_or prices u 0 ≡ price_of n q w u
  price_at u h =
      let front : List ℕ = cut (price_of n q w) 0 (code_words n) in
      let size : length front ≡ code_words n = cut_length (price_of n q w) 0 (code_words n) in
      get_or-append front (drop (code_words n) (replicate 16 65535)) 0 u (omega arith)
      ∙ cut_at 0 (price_of n q w) 0 (code_words n) u h ∙ ap (price_of n q w) (zero-add u)

  -- its cost, and how many places differ
  cost_at : (u : ℕ) → u < code_words n → cost_in prices u ≡ cost n q w u
  cost_at u h = ap (λ (x : ℕ). x / 16) (price_at u h) ∙ omega (arith, differing_few u)

  differing_at : (u : ℕ) → u < code_words n → get_or prices u 0 % 16 ≡ ones (differing n w u)
  differing_at u h = ap (λ (x : ℕ). x % 16) (price_at u h) ∙ omega (arith, differing_few u)

  -- past the code words every cost is higher than theirs
  cost_past : (u : ℕ) → code_words n ≤ u → u < 16 → cost_in prices u ≡ 4095
  cost_past u h k = ap (λ (x : ℕ). x / 16) (past_at (cut (price_of n q w) 0 (code_words n)) (code_words n) u (cut_length (price_of n q w) 0 (code_words n)) h k)

  -- so the cheapest is the one that is taken
  least_is : least_in prices ≡ chosen n q w
  unfolding chosen
  least_is =
      let k = code_words n in
      let b = least_by (key_in prices) k in
      let all : k + (16 - k) ≡ 16 = omega (arith, code_words_le n l m) in
      let inside : b < k = least_lt (key_in prices) k (pow_pos (data_bits n)) in
      let dear : (u : ℕ) → k ≤ u → u < k + (16 - k) → _ ≡ false =
      λ u h j. cost_decides (cost_in prices u) (cost_in prices b) u b (omega arith)
      ∙ le-ltb (cost_in prices u) (cost_in prices b) (omega (arith, cost_past u h (omega arith), cost_at b inside, fit b inside)) in
      ap (least_by (key_in prices)) (sym all) ∙ least_past (key_in prices) k (16 - k) dear
      ∙ least_ext (key_in prices) (key n q w) k (λ u h. ap (λ (x : ℕ). x ∷ u ∷ []) (cost_at u h))

  -- as many have a cost, where all sixteen are code words
  count_is : code_words n ≡ 16 → (x : ℕ) → as_cheap prices x ≡ ones (cut (λ u. eqb (cost n q w u) x) 0 (code_words n))
  count_is e x =
      ap (λ (k : ℕ). ones (cut (λ u. eqb (cost_in prices u) x) 0 k)) (sym e)
      ∙ ap ones (cut_ext _ _ 0 (code_words n) (λ u a b. ap (λ (y : ℕ). eqb y x) (cost_at u (omega arith))))

  -- only word A asks
  tie_is : (x : ℕ) → (eqb n 8 && leb 2 (as_cheap prices x)) ≡ (eqb n 8 && leb 2 (ones (cut (λ u. eqb (cost n q w u) x) 0 (code_words n))))
  tie_is x = go (ℕ_discrete n 8)
    where
      go : Dec (n ≡ 8) → (eqb n 8 && leb 2 (as_cheap prices x)) ≡ (eqb n 8 && leb 2 (ones (cut (λ u. eqb (cost n q w u) x) 0 (code_words n))))
      go (yes e) = ap (λ (k : ℕ). eqb n 8 && leb 2 k) (count_is (ap code_words e) x)
      go (no d) = simp (ne_eqb n 8 d)

  -- the outcome by the number of the least key
  module _ (k : ℕ) (e : k ≡ key_number prices (least_in prices)) where
    number_is : k ≡ cost n q w (chosen n q w) * 16 + chosen n q w
    number_is = e ∙ ap (key_number prices) least_is ∙ ap (λ (x : ℕ). x * 16 + chosen n q w) (cost_at (chosen n q w) (chosen_lt n q w))

    data_is : k % 16 ≡ chosen n q w
    data_is = omega (arith, number_is, chosen_lt n q w, code_words_le n l m)

    cost_is : k / 16 ≡ cost n q w (chosen n q w)
    cost_is = omega (arith, number_is, chosen_lt n q w, code_words_le n l m)

    pub outcome_is : (t : Bool) → t ≡ (eqb n 8 && leb 2 (as_cheap prices (k / 16))) → cond t None (read_as (k % 16) (get_or prices (k % 16) 0 % 16)) ≡ choose n q w
    unfolding choose
    outcome_is t h =
        let places : get_or prices (k % 16) 0 % 16 ≡ ones (differing n w (chosen n q w)) =
        ap (λ (u : ℕ). get_or prices u 0 % 16) data_is ∙ differing_at (chosen n q w) (chosen_lt n q w) in
        let tied = h ∙ ap (λ (x : ℕ). eqb n 8 && leb 2 (as_cheap prices x)) cost_is ∙ tie_is (cost n q w (chosen n q w)) in
        λ i. cond (tied i) None (read_as (data_is i) (places i))
