-- `report::fields::write_result` meets its contract: the set, the levels and what follows them, one after the other. Assumes nothing.
use mathlib.Core.List.{[], ◌∷◌, ◌++◌}
use Prim.Native.Nat.{◌^◌, ◌<◌}
use native.Mathlib.Omega.{arith}
use Rattle.text.specs.Text.{ascii, decimal, field}
use Rattle.report.specs.Lines.{set_text, flag, result_text}
use Rattle.report.proofs.Adding.{adds_append, adds_group, level_adds}
use Rattle.report.proofs.fields.write_result.Goals as goal

pub returns : goal.returns
unfolding result_text
returns c =
    let r = c.args.res in
    let p1 = field " kind=" (c.letter_of.result ∷ []) ++ set_text r.set in
    let p2 = field " g1=" (decimal r.first) in
    let p3 = field " g2=" (decimal r.second) in
    let sync = field " sync=" (flag r.sync) in
    let fixed = field " fixed=" (decimal r.repaired) in
    let mute = field " mute=" (flag r.mute) in
    let first : r.first < 2 ^ 32 = omega arith in
    let second : r.second < 2 ^ 32 = omega arith in
    let e1 = rw c.from.ensures at c.number.ensures in
    let e2 = rw c.from-2.ensures at c.number-2.ensures in
    let g1 = level_adds (ascii " g1=") r.first first e1 in
    let g2 = level_adds (ascii " g2=") r.second second e2 in
    let w2 = adds_append p1 p2 c.write_set.ensures g1 in
    let w3 = adds_append (p1 ++ p2) p3 w2 g2 in
    let p = p1 ++ p2 ++ p3 in
    let w4 = adds_append p (sync ++ (fixed ++ (mute ++ ascii "\n"))) w3 c.write_state.ensures in
    let w5 = adds_group p sync (fixed ++ (mute ++ ascii "\n")) w4 in
    let w6 = adds_group (p ++ sync) fixed (mute ++ ascii "\n") w5 in
    rw (← c.letter_of.ensures) (adds_group (p ++ sync ++ fixed) mute (ascii "\n") w6)
