-- Document 02, T-07: the frame of 54 logical bits in an order, or its refusal.
use Rattle.std.specs.Prelude.{ℕ, Bool, List, Result}
use Rattle.refusal.specs.Refusals.{first_refusal, unless}
use Rattle.refusal.specs.declared.Refusal.{Refusal}
use Rattle.order.specs.Order.{frame_of, order_table}

unfoldable pub placed_bits : List ℕ → (ℕ → Bool) → Result (List ℕ) Refusal
placed_bits ord g = unless (first_refusal (order_table ord)) (frame_of ord g)
