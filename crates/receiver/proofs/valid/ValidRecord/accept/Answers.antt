-- `receiver::valid::ValidRecord::accept` meets its contract: each part of the result is what its call ensures. Assumes nothing.
use mathlib.Core.Path.{◌≡◌, ◌∙◌, subst⁻¹}
use native.Mathlib.Omega.{arith}
use Rattle.std.specs.Prelude.{Ok}
use Rattle.bits.proofs.Tests.{T_true}
use Rattle.gain.specs.Levels.{level, first_level}
use Rattle.gain.proofs.Answers.{level_answered, first_level_answered}
use Rattle.sets.proofs.Ranges.{IndexRanges, set_ranges}
use Rattle.records.proofs.Validity.{valid_g2}
use Rattle.receiver.specs.Steps.{accepted}
use Rattle.receiver.proofs.valid.ValidRecord.accept.Goals as goal
use Rattle.receiver.proofs.valid.ValidRecord.accept.Goals.{After-indices_of-x, After-first_level, After-level}

-- the set's indices are in their ranges
ranges : (c : After-indices_of-x) → IndexRanges c.indices_of-x.result
ranges c = subst⁻¹ IndexRanges c.indices_of-x.ensures (set_ranges c.args.read.set (T_true _ c.requires))

-- so they have levels, after the last G2
first_answered : (c : After-first_level) → c.first_level.result ≡ Ok (first_level c.indices_of-x.result.g2 c.indices_of-x.result.g1 c.args.self.rec.g2)
first_answered c =
    let r = ranges (goal.at.After-first_level c).After-indices_of-x in
    let h = valid_g2 c.args.self.rec (T_true _ c.args.self.tested) in
    c.first_level.ensures ∙ first_level_answered _ _ _ (omega (arith, r.g2)) (omega (arith, r.g1)) (omega arith)

second_answered : (c : After-level) → c.level.result ≡ Ok (level c.indices_of-x.result.g2)
second_answered c = c.level.ensures ∙ level_answered _ (omega (arith, (ranges (goal.at.After-level c).After-indices_of-x).g2))

pub unwrap-requires : goal.unwrap-requires
unwrap-requires c = rw (first_answered c)

pub unwrap-requires-2 : goal.unwrap-requires-2
unwrap-requires-2 c = rw (second_answered c)

pub returns : goal.returns
unfolding accepted
returns c =
    let a = first_answered (goal.at.returns c).After-first_level in
    let b = second_answered (goal.at.returns c).After-level in
    let u = c.unwrap.ensures in
    let v = c.unwrap-2.ensures in
    let e : c.unwrap.result ≡ first_level c.indices_of-x.result.g2 c.indices_of-x.result.g1 c.args.self.rec.g2 = cc in
    let f : c.unwrap-2.result ≡ level c.indices_of-x.result.g2 = cc in
    simp (c.is_muted.ensures, e, f, c.from.ensures, c.after_accepted-next.ensures, c.indices_of-x.ensures)
