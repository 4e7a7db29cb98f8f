-- Document 01, "LSF and magnitude values": the lines of a codebook's text as they are written, without reference to a reader. A line is a
-- sign, one to ten digits and its end.
use Rattle.std.specs.Prelude.{ℕ, ◌+◌, ◌*◌, ◌^◌, ◌≤◌, ◌≡◌, Bool, true, cond, List, [], ◌∷◌, ◌++◌, map, length, ℤ, pos, neg_ℤ}
use Rattle.bits.specs.Ascii.{digit_byte}
use Rattle.bits.specs.Lists.{Every}

-- what a line writes: whether it has a minus, and its digits, 0 to 9
pub record Line : Type 0 where
  pub minus : Bool
  pub digits : List ℕ

-- the value of digits, each weighed by the power of ten of its place
unfoldable pub decimal_value : List ℕ → ℕ
decimal_value [] = 0
decimal_value (d ∷ ds) = d * 10 ^ length ds + decimal_value ds

-- a good line
pub record Good (l : Line) : Type 0 where
  pub some : 1 ≤ length l.digits
  pub most : length l.digits ≤ 10
  pub decimals : Every (λ d. d ≤ 9) l.digits
  pub nonzero : l.minus ≡ true → decimal_value l.digits ≡ 0 → ⊥

-- the bytes of a line before its end: the minus, then the digits
unfoldable pub written : Line → List ℕ
written l = cond l.minus (45 ∷ []) [] ++ map digit_byte l.digits

-- the bytes of a line, with its end
abbrev pub spelt : Line → List ℕ
spelt l = written l ++ (10 ∷ [])

-- the bytes of lines, one after the other
unfoldable pub spelt_all : List Line → List ℕ
spelt_all [] = []
spelt_all (l ∷ ls) = spelt l ++ spelt_all ls

-- the number of a line
unfoldable pub value_of : Line → ℤ
value_of l = cond l.minus (neg_ℤ (pos (decimal_value l.digits))) (pos (decimal_value l.digits))

-- a text that n good lines write, with these values
pub record Written (n : ℕ) (text : List ℕ) (vs : List ℤ) : Type 0 where
  pub lines : List Line
  pub count : length lines ≡ n
  pub good : Every Good lines
  pub bytes : spelt_all lines ≡ text
  pub values : map value_of lines ≡ vs
