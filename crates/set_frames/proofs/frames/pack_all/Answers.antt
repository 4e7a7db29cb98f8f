-- `set_frames::frames::pack_all` meets its contract: after k turns k frames stand in front, and a refused set or the last one ends them. Assumes nothing.
use mathlib.Core.Path.{◌≡◌, refl, ap₂}
use mathlib.Core.Bool.{Bool}
use Prim.Native.Nat.{ℕ, ◌*◌, ◌/◌, ◌-◌, ◌≤◌, ◌<◌}
use native.Mathlib.Numerals.{add-one}
use native.Mathlib.Omega.{arith}
use lib.ListN.{length}
use Rattle.set_frames.specs.Sending.{sets_in, sent_from, sent}
use Rattle.set_frames.proofs.Sets.{chunk_at}
use Rattle.set_frames.proofs.Turns.{last_owes, packed_owes, refused_owes}
use Rattle.set_frames.proofs.frames.pack_all.Goals as goal

pub loop-k-init : goal.loop-k-init
unfolding sent
loop-k-init c =
    let bytes = c.args.bytes.now in
    let order = c.args.order.now in
    let n : sets_in bytes - 0 ≡ sets_in bytes = omega arith in
    (refl, ap₂ (λ (b : Bool) (m : ℕ). sent_from order bytes b 0 m) c.fresh_sync-sync.ensures n, refl)

pub returns-in_default : goal.returns-in_default
returns-in_default c =
    let L = c.loop-k in
    let a = c.args in
    let le : 7 * L.k ≤ length L.out = omega (arith, L.invariant) in
    let more : L.k < sets_in a.bytes.now = omega (arith, c.as_chunks.ensures.front_len) in
    let set = chunk_at a.bytes.now c.as_chunks.result.0.now L.k c.as_chunks.ensures.front more in
    let packed = rw set at c.pack_set.ensures in
    let p = refused_owes a.order.now a.bytes.now a.out.now L.sync L.k L.out L.invariant le more c.requires _ _ (packed.answer, packed.written) _ c.in_default.is in
    record { end = p.0; size = p.1.0; written = p.1.1 }

pub loop-k-preserved : goal.loop-k-preserved
loop-k-preserved c =
    let L = c.loop-k in
    let a = c.args in
    let le : 7 * L.k ≤ length L.out = omega (arith, L.invariant) in
    let more : L.k < sets_in a.bytes.now = omega (arith, c.as_chunks.ensures.front_len) in
    let set = chunk_at a.bytes.now c.as_chunks.result.0.now L.k c.as_chunks.ensures.front more in
    let packed = rw set at c.pack_set.ensures in
    rw add-one (packed_owes a.order.now a.bytes.now a.out.now L.sync L.k L.out L.invariant le more c.requires _ _ (packed.answer, packed.written) _ c.in-Ok.is)

pub returns : goal.returns
returns c =
    let L = c.loop-k in
    let a = c.args in
    let many : length c.as_chunks.result.0.now ≡ length a.bytes.now / 11 = c.as_chunks.ensures.front_len in
    let e : L.k ≡ sets_in a.bytes.now = omega (arith, c.loop-k-test.false) in
    let le : 7 * L.k ≤ length L.out = omega (arith, L.invariant) in
    let p = rw e at (last_owes a.order.now a.bytes.now a.out.now L.sync L.k L.out L.invariant le (omega arith)) in
    rw many (record { end = p.0; size = p.1.0; written = p.1.1 })
