-- Document 02, T-05: what is claimed of the choice of a word's data. Proved in the law file of this name.
use Rattle.std.specs.Prelude.{ℕ, ◌≤◌, ◌<◌, ◌≡◌, Bool, List, length, replicate, None}
use Rattle.bits.specs.Bits.{ones, value}
use Rattle.bits.specs.Lists.{Every}
use Rattle.hamming.specs.Word.{data_bits, encode, syndrome, spare_column, decode, read_as}
use Rattle.soft.specs.Choice.{code_words, differing, cost, chosen, choose}

module _ (n : ℕ) (q : List ℕ) (w : List Bool) where
  -- the data that are taken are those of a cheapest code word
  pub record Cheapest : Type 0 where
    pub taken : chosen n q w < code_words n
    -- none of its code words costs less
    pub least : (u : ℕ) → u < code_words n → cost n q w (chosen n q w) ≤ cost n q w u
    -- and of those that cost no more none has smaller data
    pub first : (u : ℕ) → u < code_words n → cost n q w u ≡ cost n q w (chosen n q w) → chosen n q w ≤ u

  -- another code word costs as much
  pub record Tied : Type 0 where
    pub other : ℕ
    pub inside : other < code_words n
    pub differs : other ≡ chosen n q w → ⊥
    pub equal : cost n q w other ≡ cost n q w (chosen n q w)

  -- what becomes of the word
  pub record Outcomes : Type 0 where
    -- a tie erases word A
    pub tied : n ≡ 8 → Tied → choose n q w ≡ None
    -- any other word is read: the data that are taken, and as repaired the sent places that differ from their code word
    pub single : (n ≡ 8 → Tied → ⊥) → choose n q w ≡ read_as (chosen n q w) (ones (differing n w (chosen n q w)))

pub record Claims : Type 0 where
  -- whatever came and however sure it is: a cheapest code word is taken, and only a tie in word A erases
  pub cheapest : (n : ℕ) (q : List ℕ) (w : List Bool) → Cheapest n q w
  pub outcomes : (n : ℕ) (q : List ℕ) (w : List Bool) → Outcomes n q w
  -- so word B is always read, also where it shows the spare's syndrome
  pub spare : (q : List ℕ) (w : List Bool) → choose 6 q w ≡ read_as (chosen 6 q w) (ones (differing 6 w (chosen 6 q w)))
  -- equal confidences, none of them 0, leave the outcome as it is without them; the spare's syndrome in word B is the exception
  pub equal : (n : ℕ) → 6 ≤ n → n ≤ 8 → (k : ℕ) → 0 < k → (w : List Bool) → length w ≡ n → (n ≡ 6 → syndrome 6 w ≡ spare_column → ⊥)
      → choose n (replicate n k) w ≡ decode n w
  -- a word that came as it was sent gives its data back and counts no repair, however unequal the confidences, if all are above 0
  pub sent : (n : ℕ) → 6 ≤ n → n ≤ 8 → (q : List ℕ) → length q ≡ n → Every (λ x. 0 < x) q → (d : List Bool) → length d ≡ data_bits n
      → choose n q (encode n d) ≡ read_as (value d) 0
