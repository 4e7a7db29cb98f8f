-- Repair, once over the word length: at most one flip in a sent word gives its data back and is counted;
-- exactly two flips in the word of eight bits erase it.
-- Assumes nothing.
use mathlib.Core.Path.{◌≡◌, refl, ap₂}
use Rattle.std.specs.Prelude.{Option, None, Some}
use mathlib.Core.Bool.{Bool, true, false, ◌&&◌}
use mathlib.Core.List.{List}
use Prim.Native.Nat.{ℕ, ◌≤◌}
use native.Mathlib.Nat.{le_of_eq}
use lib.Dec.{T, eqb, eqb→eq}
use lib.ListN.{length}
use borrow.Author.Tests.{eq-eqb}
use Rattle.bits.specs.Bits.{◌⊕◌, ones, value}
use Rattle.bits.proofs.Tests.{and_left, and_right, implies, implies_at}
use Rattle.bits.proofs.Patterns.{patterns, patterns_at, all_patterns, all_patterns_at}
use Rattle.hamming.specs.Word.{data_bits, encode, fix_of, read_as, decode}
use Rattle.hamming.specs.declared.Word.{Word}
use Rattle.hamming.proofs.Lengths.{lengths_at}

-- whether two readings are the same
abbrev pub same_read : Option Word → Option Word → Bool
same_read (Some v) (Some w) = eqb v.data w.data && eqb v.repaired w.repaired
same_read (Some v) None = false
same_read None (Some w) = false
same_read None None = true

-- readings that pass that test are equal
pub same_read_eq : (r s : Option Word) → T (same_read r s) → r ≡ s
same_read_eq (Some v) (Some w) t =
    ap₂ read_as (eqb→eq _ _ (and_left (eqb v.data w.data) (eqb v.repaired w.repaired) t)) (eqb→eq _ _ (and_right (eqb v.data w.data) (eqb v.repaired w.repaired) t))
same_read_eq (Some v) None t = absurd t
same_read_eq None (Some w) t = absurd t
same_read_eq None None t = refl

-- the data d with the flips e come back, and the flips are counted
repairs : ℕ → List Bool → List Bool → Bool
repairs n d e = same_read (decode n (encode n d ⊕ e)) (read_as (value d) (ones e))

all_repairs : ℕ → Bool
all_repairs n = all_patterns (data_bits n) (λ d. patterns 1 n (repairs n d))

-- no flip or one: the data as sent, and the flip counted
pub decode_back : (n : ℕ) → 6 ≤ n → n ≤ 8 → (d e : List Bool) → length d ≡ data_bits n → length e ≡ n → ones e ≤ 1
    → decode n (encode n d ⊕ e) ≡ read_as (value d) (ones e)
unfolding repairs all_repairs fix_of decode
decode_back n l m d e hd he h =
    same_read_eq (decode n (encode n d ⊕ e)) (read_as (value d) (ones e))
    (patterns_at 1 n (repairs n d) (all_patterns_at (data_bits n) (λ d. patterns 1 n (repairs n d)) (lengths_at all_repairs tt n l m) d hd) e he h)

-- the data d with two flips in the word of eight bits are erased
erases : List Bool → List Bool → Bool
erases d e = implies (eqb (ones e) 2) (same_read (decode 8 (encode 8 d ⊕ e)) None)

-- exactly two flips in the word of eight bits: erased
pub double_erases : (d e : List Bool) → length d ≡ 4 → length e ≡ 8 → ones e ≡ 2 → decode 8 (encode 8 d ⊕ e) ≡ None
unfolding erases fix_of decode
double_erases d e hd he h =
    same_read_eq (decode 8 (encode 8 d ⊕ e)) None
    (implies_at (eqb (ones e) 2) _ (patterns_at 2 8 (erases d) (all_patterns_at 4 (λ d. patterns 2 8 (erases d)) tt d hd) e he (le_of_eq h)) (eq-eqb (ones e) 2 h))
