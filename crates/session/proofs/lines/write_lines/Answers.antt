-- `session::lines::write_lines` meets its contract: after k turns the lines of k frames are written. Assumes nothing.
use mathlib.Core.List.{[]}
use Prim.Native.Nat.{◌<◌}
use native.Mathlib.Omega.{arith}
use lib.ListN.{length, take, get_or}
use Rattle.text.proofs.Puts.{put_none, put_append}
use Rattle.session.specs.Format.{frame_line, frame_lines}
use Rattle.session.proofs.Texts.{frame_line_length, frame_lines_more}
use Rattle.session.proofs.lines.write_lines.Goals as goal

pub loop-frame-init : goal.loop-frame-init
unfolding frame_lines
loop-frame-init c = (omega arith, put_none c.args.out.now c.args.at)

pub loop-frame-preserved : goal.loop-frame-preserved
loop-frame-preserved c =
    let L = c.loop-frame in
    let a = c.args in
    let frames = a.frames.now in
    let k = L.frame-index in
    let h : k < length frames = omega arith in
    let p = put_append a.out.now L.out _ a.at L.end _ (frame_lines (take k frames)) (frame_line (get_or frames k [])) (omega arith) L.invariant.1 c.write_line-end.ensures in
    (omega (arith, c.write_line-end.ensures.0, frame_line_length (get_or frames k []) (c.told-frames k h)), rw (frame_lines_more frames k h) p)
