-- The text form is exact: the reader takes every text of good lines, with their values, and no other text. Assumes nothing.
use mathlib.Core.Path.{◌≡◌, refl, sym, ap, ◌∙◌}
use mathlib.Core.Bool.{Bool, true, false, ◌&&◌, ◌||◌, cond, false≢true}
use mathlib.Core.List.{List, [], ◌∷◌, ◌++◌, map, append_assoc}
use Prim.Native.Nat.{ℕ, zero, suc, ◌≤◌}
use native.Mathlib.Omega.{arith}
use lib.Dec.{eqb}
use lib.IntN.{ℤ}
use lib.ListN.{length}
use borrow.Author.Tests.{ne_eqb, eqb-true}
use Rattle.codebook_text.specs.Text.{line_of, is_ended, after_line, is_number, is_empty, is_lines, numbers, Reads}
use Rattle.bits.specs.Lists.{Every}
use Rattle.codebook_text.specs.Grammar.{Line, Good, written, spelt_all, value_of, Written}
use Rattle.codebook_text.proofs.Digits.{both}
use Rattle.codebook_text.proofs.Spelling.{written_line, written_good, written_value}
use Rattle.codebook_text.proofs.Readback.{line_read, read_good, read_written, read_value}

-- a line in front of a text: what the reader takes for the line, for its end and for the rest
record Front (w t : List ℕ) : Type 0 where
  ended : is_ended (w ++ (10 ∷ t)) ≡ true
  first : line_of (w ++ (10 ∷ t)) ≡ w
  after : after_line (w ++ (10 ∷ t)) ≡ t

-- a line whose bytes do not end it is what the reader takes
front : (w t : List ℕ) → Every (λ c. 11 ≤ c) w → Front w t
unfolding is_ended line_of after_line
front [] t h = record { ended = refl; first = refl; after = refl }
front (c ∷ w) t (k, h) =
    let n : eqb c 10 ≡ false = ne_eqb c 10 (λ e. omega arith) in
    let f = front w t h in
    record { ended = rw n f.ended; first = rw (n, f.first) refl; after = rw n f.after }

-- every text of good lines is taken, as the values of its lines
pub good_read : (ls : List Line) → Every Good ls → Reads (length ls) (spelt_all ls) (map value_of ls)
unfolding is_lines numbers spelt_all
good_read [] g = (refl, refl)
good_read (l ∷ ls) (g, gs) =
    let f = front (written l) (spelt_all ls) (written_line l) in
    let r = good_read ls gs in
    rw (append_assoc, f.ended, f.first, f.after, written_good l g, written_value l g) (r.0, ap (λ (vs : List ℤ). value_of l ∷ vs) r.1)

-- an ended line, its end and the rest are the whole text
whole : (t : List ℕ) → is_ended t ≡ true → line_of t ++ (10 ∷ after_line t) ≡ t
unfolding is_ended line_of after_line
whole [] h = absurd (false≢true h)
whole (c ∷ cs) h = go (eqb c 10) refl h (whole cs)
  where
    go : (b : Bool) → eqb c 10 ≡ b → b || is_ended cs ≡ true → (is_ended cs ≡ true → line_of cs ++ (10 ∷ after_line cs) ≡ cs)
        → cond b [] (c ∷ line_of cs) ++ (10 ∷ cond b cs (after_line cs)) ≡ c ∷ cs
    go true e h i = ap (λ (x : ℕ). x ∷ cs) (sym (eqb-true c 10 e))
    go false e h i = ap (λ (t : List ℕ). c ∷ t) (i h)

-- a text with nothing left is empty
empty : (text : List ℕ) → is_empty text ≡ true → [] ≡ text
empty [] h = refl
empty (c ∷ cs) h = absurd (false≢true h)

-- a text that is taken is written by good lines
lines_written : (n : ℕ) (text : List ℕ) → is_lines n text ≡ true → Written n text (numbers n text)
unfolding is_lines numbers spelt_all
lines_written zero text h = record { lines = []; count = refl; good = tt; bytes = empty text h; values = refl }
lines_written (suc n) text h =
    let w = line_of text in
    let p = both (is_ended text && is_number w) (is_lines n (after_line text)) h in
    let q = both (is_ended text) (is_number w) p.0 in
    let r = lines_written n (after_line text) p.1 in
    record {
      lines = line_read w ∷ r.lines;
      count = ap suc r.count;
      good = (read_good w q.1, r.good);
      bytes = append_assoc (written (line_read w)) (10 ∷ []) (spelt_all r.lines) ∙ rw (read_written w q.1, r.bytes) (whole text q.0);
      values = rw (read_value w q.1, r.values) refl;
    }

-- every text that is taken is written by good lines, which have the values read
pub read_good_only : (n : ℕ) (text : List ℕ) (vs : List ℤ) → Reads n text vs → Written n text vs
read_good_only n text vs r = rw r.1 at (lines_written n text r.0)
