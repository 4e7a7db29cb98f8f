-- `reading::parts::part` meets its contract: what stands below the part is shifted out, and what stands above it is taken off. Assumes nothing.
use mathlib.Core.Path.{◌≡◌, ap, ◌∙◌}
use Prim.Native.Nat.{ℕ, ◌+◌, ◌-◌, ◌/◌, ◌%◌, ◌^◌}
use native.Mathlib.Omega.{arith}
use Rattle.reading.proofs.Shifts.{shift_power, part_is}
use Rattle.reading.proofs.parts.part.Goals as goal

pub returns-clause-part : goal.returns-clause-part
returns-clause-part c =
    let a = c.args in
    let low : ℕ = 54 - a.first - a.count in
    let all : a.first + (a.count + low) ≡ 54 = omega arith in
    ap (λ (m : ℕ). a.bits / 2 ^ low % m) (shift_power a.count (omega arith)) ∙ part_is a.first a.count low a.bits all
