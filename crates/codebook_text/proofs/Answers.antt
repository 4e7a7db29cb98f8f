-- What a call owes, by the two tests that it makes. Assumes nothing.
use mathlib.Core.Path.{◌≡◌, refl, sym}
use mathlib.Core.Bool.{Bool, true, false, not, cond}
use mathlib.Core.List.{List, ◌++◌, append-nil}
use Prim.Native.Nat.{ℕ, ◌≤◌}
use native.Mathlib.Omega.{arith}
use lib.Dec.{eqb}
use lib.IntN.{ℤ}
use lib.ListN.{length, drop, drop_of_length-le}
use borrow.Author.Tests.{eq-eqb, ne_eqb}
use Rattle.std.specs.Prelude.{Option, Some, Result, Ok, Err}
use Rattle.refusal.specs.Refusals.{first_refusal}
use Rattle.refusal.specs.declared.Refusal.{Refusal}
use Rattle.refusal.specs.declared.Refusal.TheVariants.{InvalidCodebook}
use Rattle.codebook_text.specs.Text.{is_lines, numbers, text_table, text_refusal, text_answer, text_writes}

-- past n numbers a buffer of at most n keeps nothing
pub drop_none : (n : ℕ) (front held : List ℤ) → length held ≤ n → front ++ drop n held ≡ front
drop_none n front held h = rw (drop_of_length-le held h) (append-nil front)

-- a text that is not as many good lines is refused, whatever the buffer
pub lines_refused : (size room : ℕ) (text : List ℕ) → is_lines size text ≡ false → first_refusal (text_table size text room) ≡ Some InvalidCodebook
lines_refused size room text e = rw e (go (eqb room size))
  where
    go : (b : Bool) → cond {A = Option Refusal} (not b) (Some InvalidCodebook) (Some InvalidCodebook) ≡ Some InvalidCodebook
    go true = refl
    go false = refl

-- what a call answers and leaves
abbrev pub Owed : ℕ → List ℕ → List ℤ → Result Unit Refusal → List ℤ → Type 0
Owed size text held r after = (r ≡ text_answer size text (length held)) × (after ≡ text_writes size text held)

module _ (size : ℕ) (text : List ℕ) (held : List ℤ) where
  -- a refusal answers its number and leaves what was held
  refused_owes : text_refusal size text (length held) ≡ Some InvalidCodebook → Owed size text held (Err InvalidCodebook) held
  unfolding text_answer text_writes
  refused_owes e = (rw e refl, rw e refl)

  -- a buffer of another size is refused
  pub size_owes : (length held ≡ size → ⊥) → Owed size text held (Err InvalidCodebook) held
  unfolding text_refusal
  size_owes ne = refused_owes (rw (ne_eqb (length held) size ne) refl)

  -- and so is a text that is not as many good lines
  pub lines_owe : is_lines size text ≡ false → Owed size text held (Err InvalidCodebook) held
  unfolding text_refusal
  lines_owe e = refused_owes (lines_refused size (length held) text e)

  -- every other call leaves the numbers of the text
  pub numbers_owe : length held ≡ size → is_lines size text ≡ true → Owed size text held (Ok tt) (numbers (length held) text)
  unfolding text_refusal text_answer text_writes
  numbers_owe h e =
      let t = eq-eqb (length held) size h in
      (rw (t, e) refl, rw (t, e, h) (sym (drop_none size (numbers size text) held (omega arith))))
