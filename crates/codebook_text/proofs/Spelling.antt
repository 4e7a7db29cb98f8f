-- From a good line to the reader: the bytes before its end are a number to the reader, of the line's value. Assumes nothing.
use mathlib.Core.Path.{◌≡◌, refl}
use mathlib.Core.Bool.{Bool, true, false, not, ◌&&◌, cond}
use mathlib.Core.List.{List, [], ◌∷◌, ◌++◌, map}
use Prim.Native.Nat.{ℕ, ◌+◌, ◌≤◌}
use native.Mathlib.Omega.{arith}
use lib.Dec.{eqb}
use lib.IntN.{pos}
use lib.ListN.{length}
use borrow.Author.Tests.{le-leb, ne_eqb}
use Rattle.codebook_text.specs.Text.{is_negative, unsigned, is_digits, is_number, number_of, with_sign}
use Rattle.bits.specs.Lists.{Every}
use Rattle.bits.specs.Ascii.{digit_byte}
use Rattle.codebook_text.specs.Grammar.{Line, Good, decimal_value, written, value_of}
use Rattle.codebook_text.proofs.Decimals.{digits_spelt, digits_line_lem, digits_value_spelt, spelt_length}

-- no byte of a line ends it
pub written_line : (l : Line) → Every (λ c. 11 ≤ c) (written l)
unfolding written
written_line l = go l.minus
  where
    go : (b : Bool) → Every (λ c. 11 ≤ c) (cond b (45 ∷ []) [] ++ map digit_byte l.digits)
    go true = (omega arith, digits_line_lem l.digits)
    go false = digits_line_lem l.digits

-- the reader's sign and digits of a line are those written
record Parts (b : Bool) (ds line : List ℕ) : Type 0 where
  sign : is_negative line ≡ b
  rest : unsigned line ≡ map digit_byte ds

-- the minus is no digit, so the sign and the digits part in one way
parts : (b : Bool) (ds : List ℕ) → 1 ≤ length ds → Parts b ds (cond b (45 ∷ []) [] ++ map digit_byte ds)
unfolding is_negative unsigned
parts true ds h = record { sign = refl; rest = refl }
parts false [] h = absurd (omega arith)
parts false (d ∷ ds) h =
    let n : eqb (48 + d) 45 ≡ false = ne_eqb (48 + d) 45 (λ e. omega arith) in
    record { sign = n; rest = rw n refl }

module _ (l : Line) (g : Good l) where
  -- the parts of a good line
  line_parts : Parts l.minus l.digits (written l)
  unfolding written
  line_parts = parts l.minus l.digits g.some

  -- one to ten digits are so to the reader
  digits_written : is_digits (map digit_byte l.digits) ≡ true
  unfolding is_digits
  digits_written =
      rw (spelt_length l.digits, le-leb 1 (length l.digits) g.some, le-leb (length l.digits) 10 g.most)
      (digits_spelt l.digits g.decimals)

  -- no minus stands before a value of 0
  sign_good : (b : Bool) → l.minus ≡ b → not (b && eqb (decimal_value l.digits) 0) ≡ true
  sign_good true e = rw (ne_eqb (decimal_value l.digits) 0 (g.nonzero e)) refl
  sign_good false e = refl

  -- a good line is a number to the reader
  pub written_good : is_number (written l) ≡ true
  unfolding is_number
  written_good = rw (line_parts.rest, line_parts.sign, digits_written, digits_value_spelt) (sign_good l.minus refl)

  -- and its own value
  pub written_value : number_of (written l) ≡ value_of l
  unfolding number_of value_of
  written_value = rw (line_parts.rest, line_parts.sign, digits_value_spelt) (same l.minus)
    where
      same : (b : Bool) → with_sign b (decimal_value l.digits) ≡ cond b (with_sign true (decimal_value l.digits)) (pos (decimal_value l.digits))
      same true = refl
      same false = refl
