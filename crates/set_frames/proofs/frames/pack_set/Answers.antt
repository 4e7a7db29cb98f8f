-- `set_frames::frames::pack_set` meets its contract: the bytes are read, and their set is packed into the tail of the output. Assumes nothing.
use Prim.Native.Nat.{suc, ◌*◌, ◌≤◌}
use native.Mathlib.Omega.{arith}
use lib.ListN.{length}
use Rattle.std.proofs.lemmas.Result.{err_from_is_err_and}
use Rattle.set_frames.proofs.Packing.{form_owes, pack_owes}
use Rattle.set_frames.proofs.frames.pack_set.Goals as goal

pub returns-in_err-set : goal.returns-in_err-set
returns-in_err-set c =
    let a = c.args in
    let p = err_from_is_err_and c.from_residual.result c.from_residual.ensures.1 in
    let o = form_owes a.order.now a.bytes.now a.sync a.k a.out.now _ c.read.ensures _ c.in_err-set.was in
    record { answer = rw (p.1, p.2) o.0; written = o.1 }

pub returns : goal.returns
returns c =
    let a = c.args in
    let room : 7 * suc a.k ≤ length a.out.now = omega (arith, c.requires) in
    let p = pack_owes a.order.now a.bytes.now a.sync a.k a.out.now _ c.read.ensures _ c.in_ok-set.was room _ _ (c.pack.ensures.answer, c.pack.ensures.written) in
    record { answer = p.0; written = p.1 }
