-- What the definitions of flips take in, from below: flips at one bit of each part are correctable, those of every part are counted, and all
-- flips of n neighbouring places lie within n, as do fewer.
-- Assumes nothing.
use mathlib.Core.Path.{◌≡◌, ap, ◌∙◌}
use mathlib.Core.Bool.{Bool, true}
use Prim.Native.Nat.{ℕ, ◌+◌, ◌≤◌, ◌<◌}
use native.Mathlib.Omega.{arith}
use lib.Dec.{leb, ltb, ltb→lt, leb→le, lt→ltb, le→leb}
use Rattle.bits.specs.Bits.{ones, cut}
use Rattle.bits.proofs.Tests.{T_true, true_T, and_left, and_right, and_both}
use Rattle.bits.proofs.Count.{ones_append, one_set}
use Rattle.bits.proofs.Cut.{cut_append}
use Rattle.order.specs.Fields.{word_a, word_b, word_c, word_d, pitch_bits}
use Rattle.bursts.specs.Flips.{Correctable, protected_flips, Within}
use Rattle.bursts.specs.Width.{burst}

-- among the n bits from i on at most one is flipped: bit k
pub record OneFlip (fl : ℕ → Bool) (i n : ℕ) : Type 0 where
  pub k : ℕ
  pub only : (j : ℕ) → i ≤ j → j < i + n → fl j ≡ true → j ≡ k

-- at most one of bits 0 to 7, of 8 to 13, of 14 to 20, of 21 to 27 and of 28 to 34
pub one_each_correctable : (fl : ℕ → Bool) → OneFlip fl 0 8 → OneFlip fl 8 6 → OneFlip fl 14 7 → OneFlip fl 21 7 → OneFlip fl 28 7 → Correctable fl
one_each_correctable fl a b c d p = record {
  a = one_set fl a.k 0 8 a.only;
  b = one_set fl b.k 8 6 b.only;
  c = one_set fl c.k 14 7 c.only;
  d = one_set fl d.k 21 7 d.only;
  pitch = one_set fl p.k 28 7 p.only;
}

-- the flips in the four words and the pitch code: those of each
pub protected_sum : (fl : ℕ → Bool) → protected_flips fl ≡ ones (pitch_bits fl) + ones (word_a fl) + ones (word_b fl) + ones (word_c fl) + ones (word_d fl)
protected_sum fl =
    omega (arith, split 0 8 27, split 8 6 21, split 14 7 14, split 21 7 7)
  where
    split : (i m n : ℕ) → ones (cut fl i (m + n)) ≡ ones (cut fl i m) + ones (cut fl (i + m) n)
    split i m n = ap ones (cut_append fl i m n) ∙ ones_append (cut fl i m) (cut fl (i + m) n)

-- a burst flips no place but its own
pub burst_only : (start n t : ℕ) → burst start n t ≡ true → (start ≤ t) × (t < start + n)
burst_only start n t e =
    let both = T_true (burst start n t) e in
    (leb→le start t (and_left (leb start t) (ltb t (start + n)) both), ltb→lt t (start + n) (and_right (leb start t) (ltb t (start + n)) both))

-- and each of those
pub burst_flips : (start n t : ℕ) → start ≤ t → t < start + n → burst start n t ≡ true
burst_flips start n t h k =
    true_T (burst start n t) (and_both (leb start t) (ltb t (start + n)) (le→leb start t h) (lt→ltb t (start + n) k))

-- n neighbouring places, from any place on, changed all together
pub all_within : (n start : ℕ) → Within n (burst start n)
all_within n start = record { start = start; inside = λ t h e. burst_only start n t e }

-- and any flips among them
pub fewer_within : (n : ℕ) (fl fewer : ℕ → Bool) → ((t : ℕ) → fewer t ≡ true → fl t ≡ true) → Within n fl → Within n fewer
fewer_within n fl fewer h w = record { start = w.start; inside = λ t b e. w.inside t b (h t e) }
