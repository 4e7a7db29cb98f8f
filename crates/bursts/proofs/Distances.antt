-- The burst width of an order is the smallest distance at which two places hold bits of one part.
-- Assumes nothing.
use mathlib.Core.Path.{◌≡◌, refl, sym, ap, ◌∙◌}
use mathlib.Core.Bool.{Bool, true, false}
use mathlib.Core.List.{List}
use Prim.Native.Nat.{ℕ, ◌+◌, ◌-◌, ◌≤◌, ◌<◌}
use native.Mathlib.Omega.{arith}
use lib.Dec.{T, ltb, T_not}
use lib.ListN.{get_or}
use borrow.Author.Tests.{ltb-true, ltb-false, not-false}
use Rattle.bits.proofs.Tests.{T_true, every_at}
use Rattle.order.specs.Order.{Order, place_of}
use Rattle.order.proofs.Places.{entry_back, place_lt, place_back}
use Rattle.bursts.specs.Flips.{logical_flips}
use Rattle.bursts.specs.Width.{burst, hits_once, never_twice, burst_width}
use Rattle.bursts.specs.Distances.{same_part, differ, apart_at}
use Rattle.bursts.proofs.Tests.{every_all, FailsAt, every_fails, largest_is}
use Rattle.bursts.proofs.Flips.{burst_flips, burst_only}
use Rattle.bursts.proofs.Parts.{same_part_turned, once_correctable, correctable_once}
use Rattle.bursts.proofs.Windows.{hits_once_lem, full_burst}

module _ (ord : List ℕ) (o : Order ord) where
  -- two bits of one part are not at a distance at which none are
  apart_at_lem : (d j k : ℕ) → T (apart_at ord d) → j < 54 → k < 54 → place_of ord j + d ≡ place_of ord k → T (same_part j k) → ⊥
  apart_at_lem d j k t l m e s =
      let p = place_of ord j in
      let q = place_of ord k in
      let c = every_at (54 - d) (differ ord d) t p (omega (arith, place_lt ord o k m)) in
      let f : get_or ord (p + d) 0 ≡ k = ap (λ (i : ℕ). get_or ord i 0) e ∙ entry_back ord o k m in
      T_not (same_part j k) (rw (entry_back ord o j l, f) at c) s

  module _ (n : ℕ) (below : (d : ℕ) → 1 ≤ d → d < n → T (apart_at ord d)) where
    -- where none meet at a distance below n, two bits of one part that a burst of n flips are the same
    burst_same : (start j k : ℕ) → j < 54 → k < 54 → T (same_part j k) → burst start n (place_of ord j) ≡ true → burst start n (place_of ord k) ≡ true → j ≡ k
    burst_same start j k l m s e f = go (ltb p q) (ltb q p) refl refl
      where
        p : ℕ
        p = place_of ord j

        q : ℕ
        q = place_of ord k

        at_p : (start ≤ p) × (p < start + n)
        at_p = burst_only start n p e

        at_q : (start ≤ q) × (q < start + n)
        at_q = burst_only start n q f

        go : (x y : Bool) → ltb p q ≡ x → ltb q p ≡ y → j ≡ k
        go true y a b =
            let h : p < q = ltb-true p q a in
            absurd (apart_at_lem (q - p) j k (below (q - p) (omega arith) (omega (arith, at_p, at_q))) l m (omega arith) s)
        go false true a b =
            let h : q < p = ltb-true q p b in
            absurd (apart_at_lem (p - q) k j (below (p - q) (omega arith) (omega (arith, at_p, at_q))) m l (omega arith) (same_part_turned j k s))
        go false false a b =
            let e : p ≡ q = omega (arith, ltb-false p q a, ltb-false q p b) in
            sym (entry_back ord o j l) ∙ ap (λ (i : ℕ). get_or ord i 0) e ∙ entry_back ord o k m

    -- so bursts of n never hit a part twice
    pub apart_never : T (never_twice ord n)
    apart_never =
        every_all 54 (λ start. hits_once (logical_flips ord (burst start n)))
        (λ start h. hits_once_lem (logical_flips ord (burst start n)) (once_correctable (logical_flips ord (burst start n)) (burst_same start)))

  -- where two meet at a distance, longer bursts do
  pub meets_never : (d n : ℕ) → 1 ≤ d → d < n → apart_at ord d ≡ false → never_twice ord n ≡ false
  meets_never d n a b e = go (never_twice ord n) refl (every_fails (54 - d) (differ ord d) e)
    where
      go : (b : Bool) → never_twice ord n ≡ b → FailsAt (54 - d) (differ ord d) → b ≡ false
      go false f w = refl
      go true f w =
          let t = w.at in
          let l : t + d < 54 = omega (arith, w.below) in
          let p : place_of ord (get_or ord t 0) ≡ t = place_back ord o t (omega arith) in
          let q : place_of ord (get_or ord (t + d) 0) ≡ t + d = place_back ord o (t + d) l in
          let s = T_true (same_part (get_or ord t 0) (get_or ord (t + d) 0)) (not-false (same_part (get_or ord t 0) (get_or ord (t + d) 0)) w.fails) in
          let same =
          correctable_once (logical_flips ord (burst t n)) (full_burst ord o n (T_true (never_twice ord n) f) t (omega arith)) (get_or ord t 0)
          (get_or ord (t + d) 0) s (burst_flips t n (place_of ord (get_or ord t 0)) (omega arith) (omega arith))
          (burst_flips t n (place_of ord (get_or ord (t + d) 0)) (omega arith) (omega arith)) in
          absurd (omega (arith, p, q, ap (place_of ord) same))

  -- so the smallest such distance is the width
  pub width_is : (d : ℕ) → 1 ≤ d → d ≤ 54 → ((e : ℕ) → 1 ≤ e → e < d → T (apart_at ord e)) → (d < 54 → apart_at ord d ≡ false) → burst_width ord ≡ d
  unfolding burst_width
  width_is d a b below at = largest_is (never_twice ord) 54 d b (apart_never d below) (λ n l m. meets_never d n a l (at (omega arith)))
