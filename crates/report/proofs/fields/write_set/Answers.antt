-- `report::fields::write_set` meets its contract: its parts, one after the other, and dashes for those that it lacks. Assumes nothing.
use mathlib.Core.List.{[], ◌∷◌, ◌++◌}
use lib.Dec.{lit≤}
use Rattle.text.specs.Text.{field}
use Rattle.sets.specs.Sets.{indices_in}
use Rattle.report.specs.declared.line.Line.{Line}
use Rattle.report.specs.Adding.{Adds}
use Rattle.report.specs.Lines.{pitch_text, lsf_text, voicing_text, set_text}
use Rattle.report.proofs.Adding.{adds_append, adds_within}
use Rattle.report.proofs.fields.write_set.Goals as goal
use Rattle.report.proofs.fields.write_set.Goals.{After-write_lsf}

-- what comes after the indices completes the set
whole : (c : After-write_lsf) (after : Line) → let a = c.args in
    Adds c.write_lsf.new.line (voicing_text a.set) 21 after → Adds a.line.now (field " kind=" (a.letter ∷ []) ++ set_text a.set) 58 after
unfolding set_text
whole c after v =
    let a = c.args in
    let k = field " kind=" (a.letter ∷ []) ++ pitch_text a.set in
    let x = lsf_text (indices_in a.set) in
    let l = rw c.indices_of.ensures at c.write_lsf.ensures in
    adds_append (k ++ x) (voicing_text a.set) (adds_append k x c.write_pitch.ensures l) v

pub returns-in-Unvoiced : goal.returns-in-Unvoiced
returns-in-Unvoiced c = whole (goal.at.returns-in-Unvoiced c).After-write_lsf _ (rw c.in-Unvoiced.is (adds_within 21 (lit≤ tt) c.name.ensures))

pub returns-in-Voiced : goal.returns-in-Voiced
returns-in-Voiced c =
    let w = adds_append _ _ c.byte.ensures c.byte-in-Voiced.ensures in
    whole (goal.at.returns-in-Voiced c).After-write_lsf _ (rw c.in-Voiced.is (adds_append _ _ w c.byte-in-Voiced-2.ensures))
