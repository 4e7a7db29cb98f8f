-- `order::list::tested` meets its contract: what is the same as the default order is that, and an order. Assumes nothing.
use mathlib.Core.Path.{◌≡◌, sym, ◌∙◌, subst}
use mathlib.Core.List.{List}
use Prim.Native.Nat.{ℕ}
use lib.Dec.{T}
use Rattle.bits.proofs.Tests.{T_true, true_T}
use Rattle.order.specs.Order.{default_order, is_order}
use Rattle.order.proofs.Sameness.{same_equal, same_default}
use Rattle.order.proofs.list.tested.Goals as goal

pub returns-then-is_default : goal.returns-then-is_default
returns-then-is_default c =
    let same = T_true _ (sym c.is_default.ensures ∙ c.if-is_default.true) in
    let whole : c.in-Some.list.now ≡ c.args.list.now = c.in-Some.ensures.cases.same in
    (sym (same_equal _ default_order same) ∙ whole, true_T _ (subst (λ (l : List ℕ). T (is_order l)) whole (same_default c.in-Some.list.now same)))
