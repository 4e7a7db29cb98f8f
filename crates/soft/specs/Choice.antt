-- Document 02, T-05: soft decisions. The data of a received word are chosen by the confidences of its bits, from 0 to 255 each.
-- A word is given by its length n as in `hamming`: eight bits (A), six (B), seven (C and D). q has the confidences of its n bits, w what came.
use Rattle.std.specs.Prelude.{ℕ, ◌+◌, ◌^◌, Bool, true, false, cond, ◌&&◌, List, [], ◌∷◌, eqb, leb, Option, None}
use Rattle.bits.specs.Bits.{◌⊕◌, ones, bits, cut}
use Rattle.hamming.specs.Word.{data_bits, encode, read_as}
use Rattle.hamming.specs.declared.Word.{Word}
use Rattle.soft.specs.Least.{least_by}

-- how many code words a word of n bits has: one for all data that are sent, sixteen in A, C and D, and the eight of B with spare 0
abbrev pub code_words : ℕ → ℕ
code_words n = 2 ^ data_bits n

-- the code word of data u, u0 most significant
abbrev pub code_word : ℕ → ℕ → List Bool
code_word n u = encode n (bits (data_bits n) u)

-- the sum of the confidences of the bits that are set
abbrev pub weigh : List ℕ → List Bool → ℕ
weigh [] e = 0
weigh (x ∷ q) [] = 0
weigh (x ∷ q) (true ∷ e) = x + weigh q e
weigh (x ∷ q) (false ∷ e) = weigh q e

module _ (n : ℕ) where
  -- the sent places where the code word of u differs from what came
  abbrev pub differing : List Bool → ℕ → List Bool
  differing w u = w ⊕ code_word n u

  module _ (q : List ℕ) (w : List Bool) where
    -- the cost of a code word: the sum of the confidences there
    abbrev pub cost : ℕ → ℕ
    cost u = weigh q (differing w u)

    -- what the choice goes by: the cost, and of equal costs the data
    abbrev pub key : ℕ → List ℕ
    key u = cost u ∷ u ∷ []

    -- the data that are taken
    unfoldable pub chosen : ℕ
    chosen = least_by key (code_words n)

    -- how many code words cost as much as the one taken, itself among them
    abbrev pub cheapest : ℕ
    cheapest = ones (cut (λ u. eqb (cost u) (cost chosen)) 0 (code_words n))

    -- the outcome: two or more cheapest erase word A; else the data, and how many sent places differ from their code word
    unfoldable pub choose : Option Word
    choose = cond (eqb n 8 && leb 2 cheapest) None (read_as chosen (ones (differing w chosen)))
