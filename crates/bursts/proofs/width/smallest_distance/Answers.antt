-- `bursts::width::smallest_distance` meets its contract: at no smaller distance do bits of one part meet. Assumes nothing.
use mathlib.Core.Path.{◌≡◌, sym, ◌∙◌}
use mathlib.Core.Bool.{false}
use mathlib.Core.List.{List}
use Prim.Native.Nat.{ℕ, ◌≤◌, ◌<◌}
use native.Mathlib.Omega.{arith}
use lib.Dec.{T, lit≤}
use borrow.Author.Rules.{rules}
use borrow.Author.Tests.{tests}
use Rattle.std.proofs.lemmas.Iterator.{serves_from_Range, first_from_Range}
use Rattle.std.specs.Prelude.{Option, None, Some}
use Rattle.std.specs.Option.{MatchOption, unwrap_or}
use Rattle.order.specs.Order.{Order}
use Rattle.order.proofs.Orders.{is_order_only}
use Rattle.bursts.specs.Width.{burst_width}
use Rattle.bursts.specs.Distances.{apart_at}
use Rattle.bursts.proofs.Distances.{width_is}
use Rattle.bursts.proofs.width.smallest_distance.Goals as goal

-- the first distance from 1 on at which bits of one part meet is the width, or 54 where there is none
first_is : (ord : List ℕ) → Order ord → (r : Option ℕ)
    → MatchOption r ((k : ℕ) → 1 ≤ k → k < 54 → T (apart_at ord k)) (λ d. (1 ≤ d) × (d < 54) × (apart_at ord d ≡ false) × ((k : ℕ) → 1 ≤ k → k < d → T (apart_at ord k)))
    → unwrap_or r 54 ≡ burst_width ord
first_is ord o None h = sym (width_is ord o 54 (lit≤ tt) (lit≤ tt) h (λ l. absurd (omega arith)))
first_is ord o (Some d) h = sym (width_is ord o d h.0 (omega arith) h.3 (λ l. h.2))

pub find-requires-clause-callable : goal.find-requires-clause-callable
find-requires-clause-callable c =
    let size = (is_order_only c.args.order.now c.requires).size in
    serves_from_Range (λ x q k. search rules) (λ x a b. search rules)

pub returns : goal.returns
returns c =
    let ord = c.args.order.now in
    let first = first_from_Range _ _ _ _ (λ d. apart_at ord d ≡ false) (λ d. T (apart_at ord d)) c.find.ensures.ran (λ x q k. search (rules, tests)) (λ x q k. search (rules, tests)) in
    c.unwrap_or.ensures ∙ first_is ord (is_order_only ord c.requires) c.find.result first
