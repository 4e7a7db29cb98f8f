-- `hear::printing::print_frames` meets its contract: after k turns k frames are received, and their lines are sent or wait. Assumes nothing.
use mathlib.Core.Path.{◌≡◌, ap, ◌∙◌}
use Prim.Native.Nat.{suc, ◌+◌, ◌<◌}
use native.Mathlib.Numerals.{add-one}
use native.Mathlib.Omega.{arith}
use lib.ListN.{take}
use Rattle.std.specs.Io.KnownBytes.{Appends}
use Rattle.std.proofs.KnownBytes.{Appends-nil}
use Rattle.order.specs.Order.{default_order}
use Rattle.receiver.specs.Frames.{frames_in, answer_at, record_after}
use Rattle.hear.specs.Call.{repeat_of, text_before, repeats_before, text, Pending}
use Rattle.hear.proofs.Buffer.{pending_more}
use Rattle.hear.proofs.Chunks.{chunk_received}
use Rattle.hear.proofs.printing.print_frames.Goals as goal

pub loop-k-init : goal.loop-k-init
unfolding record_after text_before repeats_before
loop-k-init g c =
    let a = c.args in
    let b = c.begin-progress.ensures in
    let p = c.begin-progress.result in
    let w : Pending (text_before a.bytes.now 0) p.sent.count p.end a.out.now = rw b.sent (rw b.end c.requires.1) in
    let held = g.W.Write.contents a.to.now in
    let none : Appends held held (take p.sent.count (text a.bytes.now)) = rw b.sent (Appends-nil held) in
    ((b.«record», b.repeats, omega (arith, b.repeats)), (w, omega (arith, w.0), omega (arith, w.0)), none)

pub loop-k-preserved : goal.loop-k-preserved
unfolding text_before repeats_before
loop-k-preserved g c =
    let L = c.loop-k in
    let bytes = c.args.bytes.now in
    let f = c.take_frame-progress.ensures in
    let made = c.in_ok-make_room.field-0 in
    let r = c.in_ok-make_room.ensures in
    let more : L.k < frames_in bytes = omega (arith, c.as_chunks.ensures.front_len) in
    let x = chunk_received bytes c.as_chunks.result.0.now L.k c.as_chunks.ensures.front more made.rec (r.«record» ∙ L.invariant.0.0) in
    let n : made.repeats + repeat_of (answer_at default_order bytes L.k) ≡ repeats_before bytes (suc L.k) =
    ap (λ n. n + repeat_of (answer_at default_order bytes L.k)) (r.repeats ∙ L.invariant.0.1) in
    let w = pending_more (text_before bytes L.k) _ _ _ r.pending _ _ _ (rw x.0 at f.line) in
    rw add-one (
      (f.«record» ∙ x.1, rw x.0 at f.repeats ∙ n, f.count),
      (rw f.sent w, omega arith, omega arith),
      rw f.sent (r.written _ L.invariant.2),
    )
