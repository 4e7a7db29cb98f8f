-- `order::place::seven_bytes` meets its contract: each byte is a shift and a remainder. Assumes nothing.
use mathlib.Core.Path.{sym, ap, ◌∙◌}
use mathlib.Core.List.{[], ◌∷◌}
use Prim.Native.Nat.{ℕ, ◌%◌}
use native.Mathlib.Nat.{div-one}
use Rattle.bits.proofs.Numbers.{carried_part}
use Rattle.order.proofs.place.seven_bytes.Goals as goal

pub returns : goal.returns
returns c =
    let w = c.args.bits in
    rw c.to_be_bytes.ensures (λ i.
    sym (carried_part 0 8 48 w) i ∷ sym (carried_part 8 8 40 w) i ∷ sym (carried_part 16 8 32 w) i ∷ sym (carried_part 24 8 24 w) i ∷ sym
    (carried_part 32 8 16 w) i ∷ sym (carried_part 40 8 8 w) i
    ∷ sym (carried_part 48 8 0 w ∙ ap (λ (x : ℕ). x % 256) (div-one w)) i ∷ [])
