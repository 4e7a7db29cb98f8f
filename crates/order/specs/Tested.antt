-- Orders that have been tested, helpers of the contracts inside.
use Rattle.std.specs.Prelude.{ℕ, List}
use Rattle.order.specs.Order.{default_order}
use Rattle.order.specs.declared.tested.Order.{Order}
use Rattle.order.specs.declared.tested.Order.TheVariants.{Default, Other}

-- the list of one
abbrev pub numbers : Order → List ℕ
numbers Default = default_order
numbers (Other order) = order.list.now
