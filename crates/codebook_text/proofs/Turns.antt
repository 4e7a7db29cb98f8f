-- One turn of a reader of lines, at a text that starts with the line.
-- Assumes nothing.
use mathlib.Core.Path.{◌≡◌, refl, sym, ap, ◌∙◌}
use mathlib.Core.Bool.{true, false, ◌&&◌, and-false}
use mathlib.Core.List.{List, [], ◌∷◌, ◌++◌, append-nil}
use Prim.Native.Nat.{ℕ, suc, ◌+◌, ◌-◌, ◌≤◌, ◌<◌}
use native.Mathlib.Numerals.{add-one}
use native.Mathlib.Omega.{arith}
use lib.Dec.{eqb, eqb-suc-zero}
use lib.IntN.{ℤ}
use lib.ListN.{length, take, set}
use lib.Seq.{take_all, take-suc-set, append_snoc}
use Rattle.codebook_text.specs.Text.{line_of, is_ended, after_line, is_number, number_of, is_empty, is_lines, numbers}
use Rattle.codebook_text.proofs.Digits.{both}

-- nothing is left exactly where there is no byte
pub empty_is : (text : List ℕ) → eqb (length text) 0 ≡ is_empty text
empty_is [] = refl
empty_is (c ∷ cs) = eqb-suc-zero (length cs)

-- one more number at the front of a buffer
front_number : (held : List ℤ) (i : ℕ) (v : ℤ) (rest : List ℤ) → i < length held
    → take (i + 1) (set held i v) ++ rest ≡ take i held ++ (v ∷ rest)
front_number held i v rest h = rw (add-one, take-suc-set held i v h) (append_snoc (take i held) v rest)

-- with a number in every place, the buffer is all numbers
pub numbers_all : (text : List ℕ) (held all : List ℤ) (n k : ℕ) → n ≤ k → length held ≤ k → take k held ++ numbers (n - k) text ≡ all → held ≡ all
unfolding numbers
numbers_all text held all n k h l inv =
    let e : n - k ≡ 0 = omega arith in
    sym (append-nil held) ∙ (rw (e, take_all k held l) at inv)

-- what is known of a line among good ones, with m lines after it
pub record Turn (text : List ℕ) (m : ℕ) : Type 0 where
  pub ended : is_ended text ≡ true
  pub good : is_number (line_of text) ≡ true
  pub rest : is_lines m (after_line text) ≡ true

module _ (text : List ℕ) (n k : ℕ) (some : k < n) where
  -- one line fewer is left after this one
  left : n - k ≡ suc (n - (k + 1))
  left = omega arith

  -- the lines to come are the one here and those after it
  pub lines_turn : is_lines (n - k) text ≡ is_ended text && is_number (line_of text) && is_lines (n - (k + 1)) (after_line text)
  unfolding is_lines
  lines_turn = rw left refl

  -- and so are their numbers
  numbers_turn : numbers (n - k) text ≡ number_of (line_of text) ∷ numbers (n - (k + 1)) (after_line text)
  unfolding numbers
  numbers_turn = rw left refl

  -- one number more stands in the buffer, and one line fewer is to come
  pub numbers_more : (held all : List ℤ) (v : ℤ) → k < length held → v ≡ number_of (line_of text)
      → take k held ++ numbers (n - k) text ≡ all
      → take (k + 1) (set held k v) ++ numbers (n - (k + 1)) (after_line text) ≡ all
  numbers_more held all v h f inv = rw f (front_number held k _ _ h ∙ ap (λ (l : List ℤ). take k held ++ l) (sym numbers_turn) ∙ inv)

  -- a line without an end is bad
  pub lines_open : is_ended text ≡ false → is_lines (n - k) text ≡ false
  lines_open h = rw (lines_turn, h) refl

  -- a line that is no number is bad
  pub lines_bad : is_number (line_of text) ≡ false → is_lines (n - k) text ≡ false
  lines_bad h = rw (lines_turn, h, and-false) refl

  -- a good line leaves the test to those after it
  pub lines_good : is_ended text ≡ true → is_number (line_of text) ≡ true → is_lines (n - k) text ≡ is_lines (n - (k + 1)) (after_line text)
  lines_good h g = rw (lines_turn, h, g) refl

  -- among good lines this one is good, and so are those after it
  pub lines_parts : is_lines (n - k) text ≡ true → Turn text (n - (k + 1))
  lines_parts h =
      let p = both (is_ended text && is_number (line_of text)) (is_lines (n - (k + 1)) (after_line text)) (sym lines_turn ∙ h) in
      let q = both (is_ended text) (is_number (line_of text)) p.0 in
      record { ended = q.0; good = q.1; rest = p.1 }
