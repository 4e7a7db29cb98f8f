-- `report::fields::write_state` meets its contract: two parts with their letters, one after the other. Assumes nothing.
use mathlib.Core.List.{[], ◌∷◌, ◌++◌}
use Rattle.text.specs.Text.{ascii, decimal, field}
use Rattle.report.proofs.Adding.{adds_append}
use Rattle.report.proofs.fields.write_state.Goals as goal

pub returns : goal.returns
returns c =
    let fixed = field " sync=" (c.flag_of.result ∷ []) ++ field " fixed=" (decimal c.args.repaired) in
    let mute = field " mute=" (c.flag_of-2.result ∷ []) ++ ascii "\n" in
    let e = rw c.with_letter.ensures at c.byte.ensures in
    let m = rw c.with_letter-2.ensures at c.name.ensures in
    rw (← c.flag_of.ensures, ← c.flag_of-2.ensures) (adds_append fixed mute e m)
