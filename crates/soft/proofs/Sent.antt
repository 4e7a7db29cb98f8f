-- Data whose code word costs less than every other are read. Those of a word that came as it was sent are such, where every confidence is above 0.
-- Assumes nothing.
use mathlib.Core.Path.{◌≡◌, refl, sym, ap, ◌∙◌}
use mathlib.Core.Bool.{Bool, true, false}
use mathlib.Core.List.{List, [], ◌∷◌}
use Prim.Native.Nat.{ℕ, ◌+◌, ◌≤◌, ◌<◌}
use native.Mathlib.Omega.{arith}
use native.Mathlib.Decide.{ℕ_discrete}
use lib.ListN.{length, length-append}
use Rattle.bits.specs.Bits.{◌⊕◌, ones, value, bits}
use Rattle.bits.specs.Lists.{Every}
use Rattle.bits.proofs.Count.{ones_append}
use Rattle.bits.proofs.Value.{value_lt_at}
use Rattle.bits.proofs.Digits.{bits_length, value_bits, bits_value}
use Rattle.hamming.specs.Word.{data_bits, parity_of, encode, read_as}
use Rattle.hamming.proofs.Words.{split_length, parity_length}
use Rattle.soft.specs.Choice.{code_words, differing, cost, chosen, choose}
use Rattle.soft.specs.Claims.{Tied}
use Rattle.soft.proofs.Weights.{weigh_none, weigh_some, sum_append}
use Rattle.soft.proofs.Splitting.{differing_length}
use Rattle.soft.proofs.Ties.{chosen_cheapest, outcomes_are}

-- one code word costs less than all others
module _ (n : ℕ) (q : List ℕ) (w : List Bool) (d : ℕ) (h : d < code_words n)
    (less : (u : ℕ) → u < code_words n → (u ≡ d → ⊥) → cost n q w d < cost n q w u) where
  -- its data are taken
  only_chosen : chosen n q w ≡ d
  only_chosen = go (ℕ_discrete (chosen n q w) d)
    where
      go : Dec (chosen n q w ≡ d) → chosen n q w ≡ d
      go (yes e) = e
      go (no f) = absurd (omega (arith, less (chosen n q w) (chosen_cheapest n q w).taken f, (chosen_cheapest n q w).least d h))

  -- and nothing is erased
  only_read : choose n q w ≡ read_as d (ones (differing n w d))
  only_read = (outcomes_are n q w).single (λ e. alone) ∙ ap (λ (u : ℕ). read_as u (ones (differing n w u))) only_chosen
    where
      alone : Tied n q w → ⊥
      alone t = omega (arith, less t.other t.inside (λ f. t.differs (f ∙ sym only_chosen)), t.equal, ap (cost n q w) only_chosen)

-- nothing differs from itself
sum_self : (a : List Bool) → ones (a ⊕ a) ≡ 0
sum_self [] = refl
sum_self (true ∷ a) = sum_self a
sum_self (false ∷ a) = sum_self a

-- where nothing differs, both are the same
sum_none : (a b : List Bool) → length a ≡ length b → ones (a ⊕ b) ≡ 0 → a ≡ b
sum_none [] [] l h = refl
sum_none [] (y ∷ b) l h = absurd (omega arith)
sum_none (x ∷ a) [] l h = absurd (omega arith)
sum_none (true ∷ a) (true ∷ b) l h = ap (λ (c : List Bool). true ∷ c) (sum_none a b (omega arith) h)
sum_none (true ∷ a) (false ∷ b) l h = absurd (omega arith)
sum_none (false ∷ a) (true ∷ b) l h = absurd (omega arith)
sum_none (false ∷ a) (false ∷ b) l h = ap (λ (c : List Bool). false ∷ c) (sum_none a b (omega arith) h)

module _ (n : ℕ) (l : 6 ≤ n) (m : n ≤ 8) (d : List Bool) (hd : length d ≡ data_bits n) where
  -- a word as it is sent has n bits
  encode_length : length (encode n d) ≡ n
  encode_length = length-append d (parity_of n d) ∙ omega (arith, parity_length n l m d hd, split_length n l m)

  -- the code word of its data differs from it nowhere
  own_none : ones (differing n (encode n d) (value d)) ≡ 0
  own_none = ap (λ (c : List Bool). ones (encode n d ⊕ encode n c)) (bits_value (data_bits n) d hd) ∙ sum_self (encode n d)

  -- that of any other data somewhere
  other_some : (u : ℕ) → u < code_words n → (u ≡ value d → ⊥) → 0 < ones (differing n (encode n d) u)
  other_some u h f = go (ℕ_discrete (ones (differing n (encode n d) u)) 0)
    where
      c : List Bool
      c = bits (data_bits n) u

      size : length d ≡ length c
      size = hd ∙ sym (bits_length (data_bits n) u)

      parts : ones (differing n (encode n d) u) ≡ ones (d ⊕ c) + ones (parity_of n d ⊕ parity_of n c)
      parts = ap ones (sum_append d (parity_of n d) c (parity_of n c) size) ∙ ones_append (d ⊕ c) (parity_of n d ⊕ parity_of n c)

      go : Dec (ones (differing n (encode n d) u) ≡ 0) → 0 < ones (differing n (encode n d) u)
      go (yes e) = absurd (f (sym (ap value (sum_none d c size (omega (arith, parts))) ∙ value_bits (data_bits n) u h)))
      go (no e) = omega arith

  -- so what was sent is read, and nothing is repaired
  pub choose_sent : (q : List ℕ) → length q ≡ n → Every (λ x. 0 < x) q → choose n q (encode n d) ≡ read_as (value d) 0
  choose_sent q hq above = only_read n q (encode n d) (value d) (value_lt_at (data_bits n) d hd) dearer ∙ ap (read_as (value d)) own_none
    where
      dearer : (u : ℕ) → u < code_words n → (u ≡ value d → ⊥) → cost n q (encode n d) (value d) < cost n q (encode n d) u
      dearer u h f =
          let size : length q ≡ length (differing n (encode n d) u) = hq ∙ sym (differing_length n (encode n d) u encode_length) in
          omega (arith, weigh_none q (differing n (encode n d) (value d)) own_none, weigh_some q (differing n (encode n d) u) size above (other_some u h f))
