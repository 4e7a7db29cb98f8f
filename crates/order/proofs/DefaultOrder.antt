-- The default order is an order, and its places are the multiples of 7 modulo 54.
-- Assumes nothing.
use mathlib.Core.Path.{◌≡◌, refl}
use Prim.Native.Nat.{ℕ, ◌*◌, ◌%◌, ◌<◌}
use Rattle.bits.proofs.Tests.{equal_at}
use Rattle.order.specs.Order.{times, Order, place_of, order_by, default_order}

-- it is an order
pub default_order_lem : Order default_order
unfolding place_of order_by default_order
default_order_lem = record { size = refl; once = equal_at 54 (λ j. times j default_order) (λ j. 1) tt }

-- logical bit j is at place 7 × j modulo 54
pub default_place : (j : ℕ) → j < 54 → place_of default_order j ≡ 7 * j % 54
unfolding place_of order_by default_order
default_place = equal_at 54 (place_of default_order) (λ j. 7 * j % 54) tt
