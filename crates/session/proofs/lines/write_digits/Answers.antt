-- `session::lines::write_digits` meets its contract: after i turns i bytes are written. Assumes nothing.
use native.Mathlib.Omega.{arith}
use lib.ListN.{length, take, get_or}
use Prim.Native.Nat.{◌<◌}
use Rattle.text.proofs.Puts.{put_none, put_append}
use Rattle.session.specs.Format.{hex_text, hex_pair}
use Rattle.session.proofs.Texts.{hex_more}
use Rattle.session.proofs.lines.write_digits.Goals as goal

pub loop-b-init : goal.loop-b-init
unfolding hex_text
loop-b-init c = (omega arith, put_none c.args.out.now c.args.at)

pub loop-b-preserved : goal.loop-b-preserved
loop-b-preserved c =
    let L = c.loop-b in
    let a = c.args in
    let frame = a.frame.now in
    let h : L.b-index < length frame = omega arith in
    let p = put_append a.out.now L.out _ a.at L.end _ (hex_text (take L.b-index frame)) (hex_pair (get_or frame L.b-index 0)) (omega arith) L.invariant.1 c.write_pair-end.ensures in
    (omega (arith, c.write_pair-end.ensures.0), rw (hex_more frame L.b-index h) p)
