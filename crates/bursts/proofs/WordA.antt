-- No order keeps the eight bits of word A more than seven places apart: seven windows of eight places hold all eight.
-- Assumes nothing.
use mathlib.Core.Path.{◌≡◌, refl, sym, ap, ◌∙◌}
use mathlib.Core.Bool.{Bool, true, false, false≢true}
use mathlib.Core.List.{List}
use Prim.Native.Nat.{ℕ, zero, suc, ◌+◌, ◌*◌, ◌≤◌, ◌<◌, zero-le}
use native.Mathlib.Omega.{arith}
use lib.Dec.{T, leb, ltb}
use borrow.Author.Tests.{leb-true, leb-false, ltb-true, ltb-false}
use Rattle.bits.specs.Bits.{bit_num, ones, cut}
use Rattle.bits.proofs.Count.{add_bit}
use Rattle.order.specs.Order.{Order, place_of}
use Rattle.order.specs.Fields.{word_a}
use Rattle.order.proofs.Places.{place_lt}
use Rattle.bursts.specs.Flips.{logical_flips, Within}
use Rattle.bursts.specs.Width.{burst, never_twice}
use Rattle.bursts.proofs.Flips.{burst_flips, burst_only}
use Rattle.bursts.proofs.Windows.{within_correctable}

-- bits that are set in one of two sequences are counted in one of them
ones_either : (f g h : ℕ → Bool) (i n : ℕ) → ((j : ℕ) → i ≤ j → j < i + n → h j ≡ true → f j ≡ false → g j ≡ true)
    → ones (cut h i n) ≤ ones (cut f i n) + ones (cut g i n)
ones_either f g h i zero e = zero-le
ones_either f g h i (suc n) e =
    omega (
      arith,
      first (f i) (g i) (h i) (e i (omega arith) (omega arith)),
      ones_either f g h (suc i) n (λ j a b. e j (omega arith) (omega arith)),
      add_bit (f i) (ones (cut f (suc i) n)),
      add_bit (g i) (ones (cut g (suc i) n)),
      add_bit (h i) (ones (cut h (suc i) n)),
    )
  where
    first : (x y z : Bool) → (z ≡ true → x ≡ false → y ≡ true) → bit_num z ≤ bit_num x + bit_num y
    first x y false e = zero-le
    first true y true e = omega arith
    first false true true e = omega arith
    first false false true e = absurd (false≢true (e refl refl))

-- where every bit is set all are counted
ones_all : (g : ℕ → Bool) (i n : ℕ) → ((j : ℕ) → i ≤ j → j < i + n → g j ≡ true) → ones (cut g i n) ≡ n
ones_all g i zero e = refl
ones_all g i (suc n) e = rw (e i (omega arith) (omega arith)) (ap suc (ones_all g (suc i) n (λ j a b. e j (omega arith) (omega arith))))

module _ (ord : List ℕ) (o : Order ord) (w : ℕ) (t : T (never_twice ord w)) (wide : 8 ≤ w) where
  -- a window of eight places holds at most one bit of word A
  window_one : (start : ℕ) → ones (word_a (logical_flips ord (burst start 8))) ≤ 1
  window_one start = (within_correctable ord o w t (burst start 8) within).a
    where
      within : Within w (burst start 8)
      within = record { start = start; inside = λ t h e. omega (arith, burst_only start 8 t e) }

  -- so the first m windows hold at most m
  windows_few : (m : ℕ) → ones (word_a (logical_flips ord (burst 0 (8 * m)))) ≤ m
  windows_few zero = ones_either (λ j. false) (λ j. false) (logical_flips ord (burst 0 0)) 0 8 (λ j a b e. absurd (omega (arith, burst_only 0 0 (place_of ord j) e)))
  windows_few (suc m) =
      let more =
      ones_either (logical_flips ord (burst 0 (8 * m))) (logical_flips ord (burst (8 * m) 8)) (logical_flips ord (burst 0 (8 * suc m))) 0 8
      (λ j a b. last (place_of ord j)) in
      omega (arith, more, windows_few m, window_one (8 * m))
    where
      -- a place of the first m + 1 windows that is not in the first m is in the last
      last : (p : ℕ) → burst 0 (8 * suc m) p ≡ true → burst 0 (8 * m) p ≡ false → burst (8 * m) 8 p ≡ true
      last p e f = go (ltb p (8 * m)) refl
        where
          go : (b : Bool) → ltb p (8 * m) ≡ b → burst (8 * m) 8 p ≡ true
          go true q = absurd (false≢true (sym f ∙ burst_flips 0 (8 * m) p zero-le (omega (arith, ltb-true p (8 * m) q))))
          go false q = burst_flips (8 * m) 8 p (ltb-false p (8 * m) q) (omega (arith, burst_only 0 (8 * suc m) p e))

-- bursts that never hit word A twice are of at most seven places
pub never_twice_most : (ord : List ℕ) → Order ord → (w : ℕ) → T (never_twice ord w) → w ≤ 7
never_twice_most ord o w t = go (leb w 7) refl
  where
    go : (b : Bool) → leb w 7 ≡ b → w ≤ 7
    go true e = leb-true w 7 e
    go false e =
        let all = ones_all (logical_flips ord (burst 0 56)) 0 8 (λ j a b. burst_flips 0 56 (place_of ord j) zero-le (omega (arith, place_lt ord o j (omega arith)))) in
        absurd (omega (arith, all, windows_few ord o w t (leb-false w 7 e) 7))
