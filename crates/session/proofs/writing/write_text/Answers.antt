-- `session::writing::write_text` meets its contract: the lines of the frames follow the first three. Assumes nothing.
use native.Mathlib.Omega.{arith}
use lib.ListN.{length}
use Rattle.text.proofs.Puts.{put_append}
use Rattle.session.specs.Format.{header, frame_lines, session_text}
use Rattle.session.proofs.writing.write_text.Goals as goal

pub write_header-end-requires : goal.write_header-end-requires
write_header-end-requires c = omega (arith, c.requires)

pub write_lines-requires : goal.write_lines-requires
write_lines-requires c = omega (arith, c.requires, c.write_header-end.ensures.0)

pub returns : goal.returns
unfolding session_text
returns c =
    let frames = c.args.frames.now in
    put_append c.args.out.now _ _ 0 _ _ (header (length frames)) (frame_lines frames) (omega arith) c.write_header-end.ensures c.write_lines.ensures
