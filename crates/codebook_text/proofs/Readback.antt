-- From the reader to a good line: bytes that are a number are written by a good line of the same value. Assumes nothing.
use mathlib.Core.Path.{◌≡◌, refl, sym, ap, ◌∙◌}
use mathlib.Core.Bool.{Bool, true, false, not, ◌&&◌, cond, true≢false, false≢true}
use mathlib.Core.List.{List, [], ◌∷◌, ◌++◌, map}
use Prim.Native.Nat.{ℕ, ◌≤◌}
use lib.Dec.{eqb}
use lib.ListN.{length, drop, length-map}
use borrow.Author.Tests.{eq-eqb, eqb-true, not-true}
use Rattle.codebook_text.specs.Text.{is_negative, unsigned, all_digits, is_digits, digits_value, is_number, number_of}
use Rattle.bits.specs.Ascii.{digit_byte}
use Rattle.codebook_text.specs.Grammar.{Line, Good, decimal_value, written, value_of}
use Rattle.codebook_text.proofs.Digits.{both, digits_parts}
use Rattle.codebook_text.proofs.Decimals.{digit_of, digits_back, digits_small, digits_value_spelt}
use Rattle.codebook_text.proofs.Spelling.{written_value}

-- the line that bytes are read as
abbrev pub line_read : List ℕ → Line
line_read w = record { minus = is_negative w; digits = map digit_of (unsigned w) }

-- a minus, if there is one, and the rest are the whole
sign_back : (w : List ℕ) → cond (is_negative w) (45 ∷ []) [] ++ unsigned w ≡ w
unfolding is_negative unsigned
sign_back [] = refl
sign_back (c ∷ cs) = go (eqb c 45) refl
  where
    go : (b : Bool) → eqb c 45 ≡ b → cond b (45 ∷ []) [] ++ drop (cond b 1 0) (c ∷ cs) ≡ c ∷ cs
    go true e = ap (λ (x : ℕ). x ∷ cs) (sym (eqb-true c 45 e))
    go false e = refl

module _ (w : List ℕ) (h : is_number w ≡ true) where
  -- the two tests of a number
  tests : (is_digits (unsigned w) ≡ true) × (not (is_negative w && eqb (digits_value (unsigned w)) 0) ≡ true)
  unfolding is_number
  tests = both (is_digits (unsigned w)) (not (is_negative w && eqb (digits_value (unsigned w)) 0)) h

  -- the length and the bytes of its digits
  shape : (1 ≤ length (unsigned w)) × (length (unsigned w) ≤ 10) × (all_digits (unsigned w) ≡ true)
  shape = digits_parts (unsigned w) tests.0

  -- the digits read are written by these bytes
  back : map digit_byte (map digit_of (unsigned w)) ≡ unsigned w
  back = digits_back (unsigned w) shape.2

  -- and have the reader's value
  value : decimal_value (map digit_of (unsigned w)) ≡ digits_value (unsigned w)
  value = sym (digits_value_spelt (map digit_of (unsigned w))) ∙ ap digits_value back

  -- that line is good
  pub read_good : Good (line_read w)
  read_good = record {
    some = rw length-map shape.0;
    most = rw length-map shape.1;
    decimals = digits_small (unsigned w) shape.2;
    nonzero = λ m z. nonzero (is_negative w) (digits_value (unsigned w)) tests.1 m (sym value ∙ z);
  }
    where
      nonzero : (b : Bool) (n : ℕ) → not (b && eqb n 0) ≡ true → b ≡ true → n ≡ 0 → ⊥
      nonzero true n t m z = let e : true ≡ false = sym (eq-eqb n 0 z) ∙ not-true (eqb n 0) t in true≢false e
      nonzero false n t m z = false≢true m

  -- and written by these bytes
  pub read_written : written (line_read w) ≡ w
  unfolding written
  read_written = rw back (sign_back w)

  -- with the value that was read
  pub read_value : value_of (line_read w) ≡ number_of w
  read_value = sym (written_value (line_read w) read_good) ∙ ap number_of read_written
