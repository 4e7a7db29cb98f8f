-- `quantiser::choice::choose` meets its contract: each answer goes by the tests of the ranges, and the codes are those that the calls give.
-- Assumes nothing.
use mathlib.Core.Path.{sym}
use mir.Syntax.{w32}
use mir.ValLaws.{to_z-of_z}
use Rattle.quantiser.specs.Choice.{choose_answer}
use Rattle.quantiser.proofs.choice.choose.Goals as goal

pub returns-then-level_in_range-q : goal.returns-then-level_in_range-q
unfolding choose_answer
returns-then-level_in_range-q c =
    let first = to_z-of_z w32 _ c.ranges.first in
    let second = to_z-of_z w32 _ c.ranges.second in
    let is_first = simp first at c.level_in_range.ensures in
    let is_second = simp second at c.level_in_range-2.ensures in
    let g2 = simp second at c.second_code-g2.ensures.equal in
    let g1 = simp first at c.first_code-g1.ensures in
    simp (sym is_first, sym is_second, c.if-level_in_range-q.true, g1, g2)

pub returns-else-level_in_range-q : goal.returns-else-level_in_range-q
unfolding choose_answer
returns-else-level_in_range-q c =
    let is_first = simp (to_z-of_z w32 _ c.ranges.first) at c.level_in_range.ensures in
    let is_second = simp (to_z-of_z w32 _ c.ranges.second) at c.level_in_range-2.ensures in
    simp (sym is_first, sym is_second, c.if-level_in_range-q.false)
