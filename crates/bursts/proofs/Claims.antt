-- What is claimed of the burst width of every order, and that of the default order.
-- Assumes nothing.
use mathlib.Core.Path.{◌≡◌, refl, sym, subst, ◌∙◌}
use mathlib.Core.Bool.{Bool, true, false, false≢true}
use mathlib.Core.List.{List}
use Prim.Native.Nat.{ℕ, suc, ◌-◌, ◌≤◌, ◌<◌}
use native.Mathlib.Omega.{arith}
use lib.Dec.{T, leb, lit≤}
use borrow.Author.Tests.{leb-true, leb-false}
use Rattle.bits.proofs.Tests.{true_T, every_at}
use Rattle.order.specs.Order.{Order, place_of, order_by, default_order}
use Rattle.order.proofs.DefaultOrder.{default_order_lem}
use Rattle.bursts.specs.Flips.{logical_flips}
use Rattle.bursts.specs.Width.{burst, hits_once, never_twice, burst_width}
use Rattle.bursts.specs.Distances.{apart_at}
use Rattle.bursts.specs.Claims.{HitsTwice, Widths}
use Rattle.bursts.proofs.Tests.{every_fails, largest_above, largest_passes}
use Rattle.bursts.proofs.Flips.{all_within}
use Rattle.bursts.proofs.Windows.{hits_once_lem, within_correctable}
use Rattle.bursts.proofs.Distances.{apart_never, width_is}
use Rattle.bursts.proofs.WordA.{never_twice_most}

-- some burst of a larger length hits a part twice
beyond : (ord : List ℕ) (n : ℕ) → burst_width ord < n → n ≤ 54 → HitsTwice ord n
unfolding burst_width
beyond ord n h l =
    let w = every_fails 54 (λ start. hits_once (logical_flips ord (burst start n))) (largest_above (never_twice ord) 54 n h l) in
    let fl = burst w.at n in
    record {
      flips = fl;
      within = all_within n w.at;
      twice = λ c. false≢true (sym w.fails ∙ true_T (hits_once (logical_flips ord fl)) (hits_once_lem (logical_flips ord fl) c));
    }

module _ (ord : List ℕ) (o : Order ord) where
  -- a burst of one place hits no part twice
  least : 1 ≤ burst_width ord
  unfolding burst_width
  least = go (leb 1 (burst_width ord)) refl
    where
      go : (b : Bool) → leb 1 (burst_width ord) ≡ b → 1 ≤ burst_width ord
      go true e = leb-true 1 (burst_width ord) e
      go false e =
          let fails = largest_above (never_twice ord) 54 1 (leb-false 1 (burst_width ord) e) (lit≤ tt) in
          absurd (false≢true (sym fails ∙ true_T (never_twice ord 1) (apart_never ord o 1 (λ d a b. absurd (omega arith)))))

  -- bursts of the width never do
  passes : T (never_twice ord (burst_width ord))
  unfolding burst_width
  passes = largest_passes (never_twice ord) 54 least

-- the default order
default_seven : burst_width default_order ≡ 7
unfolding place_of order_by default_order
default_seven = width_is default_order default_order_lem 7 (lit≤ tt) (lit≤ tt) below (λ h. refl)
  where
    below : (d : ℕ) → 1 ≤ d → d < 7 → T (apart_at default_order d)
    below d a b =
        let e : suc (d - 1) ≡ d = omega arith in
        subst (λ (k : ℕ). T (apart_at default_order k)) e (every_at 6 (λ k. apart_at default_order (suc k)) tt (d - 1) (omega arith))

pub widths : Widths
widths = record {
  every_order = λ ord o. record {
    inside = within_correctable ord o (burst_width ord) (passes ord o);
    beyond = beyond ord;
    least = least ord o;
    most = never_twice_most ord o (burst_width ord) (passes ord o);
  };
  default_width = default_seven;
}
