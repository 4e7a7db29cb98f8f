-- `codebook_values::lowering::lower` meets its contract: the values from `at` on are lowered, and `most` is asked of the one below them. Assumes nothing.
use mathlib.Core.Path.{◌≡◌, ap, ◌∙◌}
use mathlib.Core.List.{List}
use Prim.Native.Nat.{ℕ, ◌-◌, ◌≤◌, ◌<◌}
use native.Mathlib.Omega.{arith}
use lib.ListN.{length, get_or, take, drop, length-take}
use lib.IntN.{ℤ, pos, nat_abs, neg_ℤ, ◌-ℤ◌}
use mir.Syntax.{w64}
use mir.Val.{SFits, to_z, of_z}
use mir.ValLaws.{to_z-of_z}
use borrow.Author.Rules.{rules}
use Rattle.std.specs.Int.{int_min}
use Rattle.codebook_values.specs.Values.{spacing, highest}
use Rattle.codebook_values.proofs.Sizes.{abs_fits, number_back, abs_add_le}
use Rattle.codebook_values.proofs.Lowered.{lowered_abs_le}
use Rattle.codebook_values.proofs.LoweredTurns.{lowered_start, lowered_at, lowered_more}
use Rattle.codebook_values.proofs.lowering.lower.Goals as goal
use Rattle.codebook_values.proofs.lowering.lower.Goals.{After-min-value}

-- the ten values, and the number of the one whose turn it is
abbrev values : After-min-value → List ℤ
values c = take 10 c.args.out.now

abbrev turn : After-min-value → ℕ
turn c = c.loop-at.at - 1

turn_lt : (c : After-min-value) → turn c < length (values c)
turn_lt c = simp length-take (omega arith)

-- what stands there before the turn, and what is made of it
entry_is : (c : After-min-value) → get_or c.loop-at.out (turn c) (pos 0) ≡ get_or (values c) (turn c) (pos 0)
entry_is c = rw c.loop-at.invariant.4 (lowered_at highest (values c) _ c.loop-at.at (turn c) (omega arith) (turn_lt c))

value_is : (c : After-min-value) → c.min-value.result ≡ int_min (get_or (values c) (turn c) (pos 0)) (to_z w64 c.loop-at.most-bits)
value_is c =
    let f : SFits w64 (get_or c.loop-at.out (turn c) (pos 0)) = search rules in
    rw (← entry_is c) (simp (to_z-of_z w64 _ f) at c.min-value.ensures.value)

-- which is at most as large as what was asked of it
value_le : (c : After-min-value) → nat_abs c.min-value.result ≤ nat_abs (to_z w64 c.loop-at.most-bits)
value_le c = rw (value_is c) (lowered_abs_le (values c) (turn c) (to_z w64 c.loop-at.most-bits) (turn_lt c) c.requires.spaced)

-- 50 Hz less is far from the ends of the type
less_fits : (c : After-min-value) → SFits w64 (c.min-value.result -ℤ spacing)
less_fits c = abs_fits _ (omega (arith, value_le c, abs_add_le c.min-value.result (neg_ℤ spacing)))

pub loop-at-init : goal.loop-at-init
loop-at-init c = let s = lowered_start highest 10 c.args.out.now in (omega arith, search rules, omega arith, s.0, s.1)

pub overflow_sub-most : goal.overflow_sub-most
overflow_sub-most c = rw (number_back c.min-value.result c.min-value.type_inv) (less_fits c)

pub loop-at-preserved : goal.loop-at-preserved
loop-at-preserved c =
    let L = c.loop-at in
    let v = c.min-value.result in
    let r : to_z w64 (of_z w64 v) ≡ v = number_back v c.min-value.type_inv in
    let next : to_z w64 (of_z w64 (v -ℤ spacing)) ≡ v -ℤ spacing = to_z-of_z w64 _ (less_fits c) in
    let q = value_is c ∙ ap (int_min (get_or (values c) (turn c) (pos 0))) L.invariant.3 in
    let n = lowered_more highest (values c) (drop 10 c.args.out.now) L.at (turn c) (omega arith) (turn_lt c) v q in
    rw (r, next) (omega arith, search rules, omega (arith, value_le c, abs_add_le v (neg_ℤ spacing)), n.0, rw L.invariant.4 n.1)
