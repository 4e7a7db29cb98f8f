-- `session_lines::frames::read_frame` meets its contract: two tests of the line. Assumes nothing.
use mathlib.Core.Path.{◌≡◌, sym, ap, ◌∙◌}
use mathlib.Core.Bool.{not}
use mathlib.Core.List.{List}
use Prim.Native.Nat.{ℕ, ◌%◌}
use lib.Dec.{eqb}
use lib.ListN.{get_or}
use borrow.Author.Tests.{eq-eqb, ne_eqb}
use Rattle.std.specs.Prelude.{Ok}
use Rattle.session.specs.Writing.{is_padded}
use Rattle.session.proofs.Padding.{padded_is}
use Rattle.session_lines.specs.Lines.{hex_bytes, frame_of, frame_read}
use Rattle.session_lines.proofs.frames.read_frame.Goals as goal

-- what the last byte tells of the frame
padding : (line digits frame : List ℕ) → frame ≡ hex_bytes digits → frame_of line ≡ hex_bytes digits → is_padded (frame_of line) ≡ not (eqb (get_or frame 6 0 % 4) 0)
padding line digits frame e f = ap is_padded (f ∙ sym e) ∙ padded_is frame

pub returns-in_default : goal.returns-in_default
unfolding frame_read
returns-in_default c = simp c.in_default.ensures

pub returns-then-frame-ne0 : goal.returns-then-frame-ne0
unfolding frame_read
returns-then-frame-ne0 c =
    let line = c.in-Some.ensures in
    simp (line.0, padding _ _ _ c.seven_bytes-frame.ensures line.2 ∙ ap not (ne_eqb _ 0 c.if-frame-ne0.true))

pub returns : goal.returns
unfolding frame_read
returns c =
    let line = c.in-Some.ensures in
    simp (line.0, padding _ _ _ c.seven_bytes-frame.ensures line.2 ∙ ap not (eq-eqb _ 0 c.if-frame-ne0.false)) (ap Ok (c.seven_bytes-frame.ensures ∙ sym line.2))
