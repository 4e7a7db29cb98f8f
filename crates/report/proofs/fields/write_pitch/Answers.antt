-- `report::fields::write_pitch` meets its contract: the kind's letter in the name, and then a dash or the number. Assumes nothing.
use mathlib.Core.List.{[], ◌∷◌, ◌++◌}
use lib.Dec.{lit≤}
use Rattle.text.specs.Text.{ascii, field}
use Rattle.report.proofs.Adding.{adds_within}
use Rattle.report.proofs.fields.write_pitch.Goals as goal

pub returns-in-Unvoiced : goal.returns-in-Unvoiced
returns-in-Unvoiced c =
    let text = field " kind=" (c.args.letter ∷ []) ++ ascii " pitch=-" in
    let e = rw c.with_letter-name.ensures at c.name.ensures in
    rw c.in-Unvoiced.is (adds_within 17 {xs = text} (lit≤ tt) e)

pub returns-in-Voiced : goal.returns-in-Voiced
returns-in-Voiced c =
    let e = rw c.with_letter-name.ensures at c.byte.ensures in
    rw c.in-Voiced.is e
