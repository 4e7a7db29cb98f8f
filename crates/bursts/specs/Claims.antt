-- Document 02, T-07: what is claimed of the burst width of an order. Proved in the law file of this name.
use Rattle.std.specs.Prelude.{ℕ, ◌≤◌, ◌<◌, ◌≡◌, Bool, List}
use Rattle.order.specs.Order.{Order, default_order}
use Rattle.bursts.specs.Flips.{logical_flips, Correctable, Within}
use Rattle.bursts.specs.Width.{burst_width}

-- flips of places inside n neighbouring ones that are not correctable
pub record HitsTwice (ord : List ℕ) (n : ℕ) : Type 0 where
  pub flips : ℕ → Bool
  pub within : Within n flips
  pub twice : ¬ Correctable (logical_flips ord flips)

pub record WidthClaims (ord : List ℕ) : Type 0 where
  -- flips inside so many neighbouring places are correctable
  pub inside : (flips : ℕ → Bool) → Within (burst_width ord) flips → Correctable (logical_flips ord flips)
  -- inside more of the 54 there are some that are not
  pub beyond : (n : ℕ) → burst_width ord < n → n ≤ 54 → HitsTwice ord n
  -- a single flip always is, and no order keeps the eight bits of word A more than seven places apart
  pub least : 1 ≤ burst_width ord
  pub most : burst_width ord ≤ 7

-- all this of every order; the default order has the largest width there is
pub record Widths : Type 0 where
  pub every_order : (ord : List ℕ) → Order ord → WidthClaims ord
  pub default_width : burst_width default_order ≡ 7
