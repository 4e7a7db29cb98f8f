-- `from_session::frames::copy_frames` meets its contract: after k turns k frames stand in front, and a step without a frame ends them. Assumes nothing.
use mathlib.Core.Path.{◌≡◌, refl, ap}
use Prim.Native.Nat.{◌+◌, ◌-◌, ◌*◌}
use native.Mathlib.Numerals.{add-one}
use native.Mathlib.Omega.{arith}
use borrow.Author.Rules.{rules}
use lib.ListN.{length, drop, length-take, length-drop}
use lib.Seq.{take-length}
use Rattle.std.specs.Prelude.{Some, Ok}
use Rattle.std.proofs.lemmas.Slice.{put_mid-paste}
use Rattle.session.specs.Format.{most_frames}
use Rattle.from_session.proofs.Turns.{stop_owes, frame_more, last_owes}
use Rattle.from_session.proofs.frames.copy_frames.Goals as goal

pub returns-in_default : goal.returns-in_default
returns-in_default c =
    let L = c.loop-k in
    let a = c.args in
    let p = stop_owes a.text.now a.out.now L.at L.k L.out L.invariant _ c.read_at-step.ensures c.loop-k-test.true (search rules) in
    record { answer = p.0; end = p.1.0; frames = p.1.1 }

pub loop-k-preserved : goal.loop-k-preserved
loop-k-preserved c =
    let L = c.loop-k in
    let a = c.args in
    let frame = c.in-Ok-Some.frame in
    let is : c.read_at-step.result.answer ≡ Ok (Some frame) = search rules in
    let seven : length frame ≡ 7 =
    omega (arith, ap length c.copy_from_slice.ensures.after, c.copy_from_slice.ensures.len, length-take (7 * L.k + 7 - 7 * L.k) (drop (7 * L.k) L.out), length-drop (7 * L.k) L.out) in
    let put = put_mid-paste (7 * L.k) (7 * L.k + 7 - 7 * L.k) L.out _ frame (length frame) c.copy_from_slice.ensures.after (omega (arith, seven)) refl in
    rw add-one (frame_more a.text.now a.out.now L.at L.k L.out L.invariant _ c.read_at-step.ensures c.loop-k-test.true frame is seven _ (rw (take-length frame) at put))

pub returns : goal.returns
returns c =
    let L = c.loop-k in
    let a = c.args in
    let e : L.k ≡ most_frames = omega (arith, c.loop-k-test.false, L.invariant.few) in
    let p = rw e at (last_owes a.text.now a.out.now L.at L.k L.out L.invariant _ c.read_at-answer.ensures c.loop-k-test.false) in
    record { answer = p.0; end = p.1.0; frames = p.1.1 }
