-- A row of the table is the rule at every entry, and an entry tells what the rule asks for.
-- Assumes nothing.
use mathlib.Core.Path.{◌≡◌, refl, ap, ◌∙◌}
use mathlib.Core.Bool.{Bool}
use mathlib.Core.List.{List}
use Prim.Native.Nat.{ℕ, ◌≤◌, ◌<◌}
use native.Mathlib.Nat.{zero-add}
use native.Mathlib.Omega.{arith}
use lib.Dec.{T, ltb, ltb→lt}
use lib.ListN.{length, get_or}
use Rattle.bits.specs.Bits.{bits, same}
use Rattle.bits.proofs.Cut.{cut_at}
use Rattle.bits.proofs.Tests.{and_left}
use Rattle.hamming.specs.Word.{check_bits, column, Fix, stand, flip, erase, fix_of}
use Rattle.hamming.specs.Table.{stand_mark, erase_mark, entry_of, fix_row}
use Rattle.hamming.proofs.Syndromes.{explains, fix_explains}

-- the entry of a row at a number is what the rule asks for at that syndrome
pub row_is : (n z : ℕ) → z < 16 → get_or (fix_row n) z 0 ≡ entry_of (fix_of n (bits (check_bits n) z))
unfolding fix_row
row_is n z h = cut_at 0 (λ z. entry_of (fix_of n (bits (check_bits n) z))) 0 16 z h ∙ ap (λ (z : ℕ). entry_of (fix_of n (bits (check_bits n) z))) (zero-add z)

-- the bit that a rule's request flips is one of the word's
flip_lt : (n k : ℕ) (z : List Bool) → T (explains n z (flip k)) → k < n
flip_lt n k z t = ltb→lt k n (and_left (ltb k n) (same z (column n k)) t)

module _ (n : ℕ) (l : 6 ≤ n) (m : n ≤ 8) (z : List Bool) (h : length z ≡ check_bits n) where
  abbrev asked : Fix
  asked = fix_of n z

  -- the mark of an erasure asks for one
  pub entry_erase : entry_of asked ≡ erase_mark → asked ≡ erase
  entry_erase e = go (fix_of n z) (fix_explains n l m z h) e
    where
      go : (f : Fix) → T (explains n z f) → entry_of f ≡ erase_mark → f ≡ erase
      go stand t e = absurd (omega arith)
      go (flip k) t e = absurd (omega (arith, flip_lt n k z t))
      go erase t e = refl

  -- the mark of a word that stands lets it stand
  pub entry_stand : entry_of asked ≡ stand_mark → asked ≡ stand
  entry_stand e = go (fix_of n z) (fix_explains n l m z h) e
    where
      go : (f : Fix) → T (explains n z f) → entry_of f ≡ stand_mark → f ≡ stand
      go stand t e = refl
      go (flip k) t e = absurd (omega (arith, flip_lt n k z t))
      go erase t e = absurd (omega arith)

  -- any other entry is the bit to flip
  pub entry_flip : (entry_of asked ≡ erase_mark → ⊥) → (entry_of asked ≡ stand_mark → ⊥) → (asked ≡ flip (entry_of asked)) × (entry_of asked < n)
  entry_flip a b = go (fix_of n z) (fix_explains n l m z h) a b
    where
      go : (f : Fix) → T (explains n z f) → (entry_of f ≡ erase_mark → ⊥) → (entry_of f ≡ stand_mark → ⊥) → (f ≡ flip (entry_of f)) × (entry_of f < n)
      go stand t a b = absurd (b refl)
      go (flip k) t a b = (refl, flip_lt n k z t)
      go erase t a b = absurd (a refl)
