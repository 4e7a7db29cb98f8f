-- `codebook_values::raising::write_raised` meets its contract: after k turns k values are in front, and `least` is asked of the next. Assumes nothing.
use mathlib.Core.Path.{◌≡◌}
use Prim.Native.Nat.{◌+◌, ◌*◌, ◌≤◌}
use native.Mathlib.Omega.{arith}
use lib.ListN.{length}
use lib.IntN.{nat_abs, ◌+ℤ◌}
use mir.Syntax.{w64}
use mir.Val.{to_z, of_z}
use mir.ValLaws.{to_z-of_z}
use borrow.Author.Rules.{rules}
use Rattle.std.specs.Int.{int_max}
use Rattle.bits.proofs.Front.{front_all}
use Rattle.codebook_values.specs.Values.{spacing, raised}
use Rattle.codebook_values.specs.Sums.{sums}
use Rattle.codebook_values.proofs.Sizes.{abs_fits, number_back, abs_add_le, abs_larger_le}
use Rattle.codebook_values.proofs.Sums.{sums_length}
use Rattle.codebook_values.proofs.RaisedTurns.{raised_length, raised_more}
use Rattle.codebook_values.proofs.raising.write_raised.Goals as goal

pub loop-k-preserved : goal.loop-k-preserved
loop-k-preserved c =
    let rows = c.args.rows.now in
    let L = c.loop-k in
    let v = c.max-value.result in
    let least = to_z w64 L.least-bits in
    let r : to_z w64 (of_z w64 v) ≡ v = number_back v c.max-value.type_inv in
    let m : v ≡ int_max c.sum_at.result least = simp (number_back c.sum_at.result c.sum_at.type_inv) at c.max-value.ensures.value in
    let size : nat_abs v ≤ 16000000000 + 50000000 * (L.k + 1) =
    rw m (abs_larger_le c.sum_at.result least _ (omega (arith, c.sum_at.ensures.bound)) L.invariant.size) in
    let next : to_z w64 (of_z w64 (v +ℤ spacing)) ≡ v +ℤ spacing = to_z-of_z w64 _ (abs_fits _ (omega (arith, abs_add_le v spacing))) in
    let n = raised_more (sums rows) c.args.out.now L.out least v L.k (omega (arith, sums_length rows)) (omega arith) (rw c.sum_at.ensures.equal at m)
    L.invariant.rest L.invariant.front in
    rw (r, next) (record { turns = omega arith; room = search rules; rest = n.0; size = omega (arith, abs_add_le v spacing); front = n.1 })

pub returns : goal.returns
returns c =
    let values = raised spacing (sums c.args.rows.now) in
    let m : length values ≤ 10 = omega (arith, sums_length c.args.rows.now, raised_length spacing (sums c.args.rows.now)) in
    front_all values c.args.out.now c.loop-k.out c.loop-k.k 10 c.loop-k.invariant.front (omega arith) m
