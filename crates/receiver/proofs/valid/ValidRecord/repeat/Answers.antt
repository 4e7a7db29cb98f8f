-- `receiver::valid::ValidRecord::repeat` meets its contract: each part of the result is what its call ensures. Assumes nothing.
use mathlib.Core.Path.{◌≡◌, ◌∙◌}
use native.Mathlib.Omega.{arith}
use Rattle.std.specs.Prelude.{Ok}
use Rattle.bits.proofs.Tests.{T_true}
use Rattle.gain.specs.Levels.{level}
use Rattle.gain.proofs.Answers.{level_answered}
use Rattle.records.proofs.Validity.{valid_g2}
use Rattle.receiver.specs.Steps.{repeated}
use Rattle.receiver.proofs.valid.ValidRecord.repeat.Goals as goal
use Rattle.receiver.proofs.valid.ValidRecord.repeat.Goals.{After-level}

-- the last G2 has a level
answered : (c : After-level) → c.level.result ≡ Ok (level c.args.self.rec.g2)
answered c =
    let h = valid_g2 c.args.self.rec (T_true _ c.args.self.tested) in
    c.level.ensures ∙ level_answered c.args.self.rec.g2 (omega arith)

pub unwrap-level-requires : goal.unwrap-level-requires
unwrap-level-requires c = rw (answered c)

pub returns : goal.returns
unfolding repeated
returns c =
    let a = answered (goal.at.returns c).After-level in
    let u = c.unwrap-level.ensures in
    let e : c.unwrap-level.result ≡ level c.args.self.rec.g2 = cc in
    simp (c.is_muted.ensures, c.after_repeat-next.ensures, e)
