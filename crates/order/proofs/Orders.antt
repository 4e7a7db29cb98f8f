-- The test of an order is `Order`: it passes for an order and for nothing else.
-- Assumes nothing.
use mathlib.Core.Path.{◌≡◌, refl}
use mathlib.Core.Bool.{Bool, true, false}
use mathlib.Core.List.{List}
use Prim.Native.Nat.{ℕ, zero, suc, ◌<◌}
use native.Mathlib.Omega.{arith}
use lib.Dec.{T, eqb, eqb→eq}
use lib.ListN.{length, get_or}
use borrow.Author.Tests.{eq-eqb}
use Rattle.bits.specs.Lists.{every}
use Rattle.bits.proofs.Tests.{and_left, and_right, and_both, every_at, T_true}
use Rattle.order.specs.Order.{times, Order, is_order, TestsOrder, default_order}
use Rattle.order.proofs.Places.{entry_lt}
use Rattle.order.proofs.DefaultOrder.{default_order_lem}

-- a test that passes at each number below n passes at every one
every_each : (n : ℕ) (f : ℕ → Bool) → ((k : ℕ) → k < n → T (f k)) → T (every n f)
every_each zero f h = tt
every_each (suc n) f h = and_both (f n) (every n f) (h n (omega arith)) (every_each n f (λ k l. h k (omega arith)))

module _ (ord : List ℕ) where
  -- the two tests
  abbrev sized : Bool
  sized = eqb (length ord) 54

  abbrev once : ℕ → Bool
  once j = eqb (times j ord) 1

  -- an order passes
  pub is_order_lem : Order ord → T (is_order ord)
  is_order_lem o =
      and_both sized (every 54 once) (T_true sized (eq-eqb (length ord) 54 o.size))
      (every_each 54 once (λ j h. T_true (once j) (eq-eqb (times j ord) 1 (o.once j h))))

  -- and nothing else does
  pub is_order_only : T (is_order ord) → Order ord
  is_order_only t = record {
    size = eqb→eq (length ord) 54 (and_left sized (every 54 once) t);
    once = λ j h. eqb→eq (times j ord) 1 (every_at 54 once (and_right sized (every 54 once) t) j h);
  }

  -- a list that is no order fails
  pub no_order : (Order ord → ⊥) → is_order ord ≡ false
  no_order none = go (is_order ord) is_order_only
    where
      go : (b : Bool) → (T b → Order ord) → b ≡ false
      go true only = absurd (none (only tt))
      go false only = refl

  -- as one with an entry that is no logical number
  pub entry_none : (t : ℕ) → t < 54 → (get_or ord t 0 < 54 → ⊥) → is_order ord ≡ false
  entry_none t h big = no_order (λ o. big (entry_lt ord o t h))

-- so the test passes exactly for orders
pub tests_order : (ord : List ℕ) → TestsOrder ord
tests_order ord = record { passes = is_order_lem ord; only = is_order_only ord }

-- the default order passes
pub default_is_order : T (is_order default_order)
default_is_order = is_order_lem default_order default_order_lem
