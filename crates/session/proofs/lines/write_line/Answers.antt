-- `session::lines::write_line` meets its contract: `f=`, the digits and the line end are put one after the other. Assumes nothing.
use mathlib.Core.List.{◌++◌}
use Prim.Native.Nat.{ℕ, ◌+◌}
use native.Mathlib.Omega.{arith}
use lib.ListN.{length-set}
use Rattle.text.specs.Text.{ascii}
use Rattle.text.proofs.Puts.{byte_put, pair_put, put_append}
use Rattle.session.specs.Format.{hex_text, frame_line}
use Rattle.session.proofs.Texts.{hex_length}
use Rattle.session.proofs.lines.write_line.Goals as goal

pub bounds-out-end : goal.bounds-out-end
bounds-out-end c = omega (arith, hex_length c.args.frame.now, length-set {A = ℕ})

pub returns : goal.returns
unfolding frame_line
returns c =
    let a = c.args in
    let d = c.write_digits-end in
    let digits = hex_text a.frame.now in
    let p = put_append a.out.now _ d.new.out a.at (a.at + 2) d.result (ascii "f=") digits (omega arith) (pair_put a.out.now a.at 102 61 (omega arith)) d.ensures in
    put_append a.out.now d.new.out _ a.at d.result _ (ascii "f=" ++ digits) (ascii "\n") (omega arith) p (byte_put d.new.out d.result 10 (omega (arith, hex_length a.frame.now, length-set {A = ℕ})))
