-- `codebook_text::text::fill` meets its contract: the numbers written and those of the lines to come are the text's. Assumes nothing.
use mathlib.Core.Path.{◌≡◌, ◌∙◌}
use Prim.Native.Nat.{◌+◌, ◌-◌}
use native.Mathlib.Omega.{arith}
use lib.ListN.{length}
use mir.Syntax.{w64}
use mir.Val.{SFits, to_z, of_z}
use mir.ValLaws.{to_z-of_z}
use borrow.Author.Rules.{rules}
use borrow.Author.Tests.{tests}
use Rattle.codebook_text.specs.Text.{line_of, number_of}
use Rattle.codebook_text.proofs.Turns.{Turn, lines_parts, numbers_more, numbers_all}
use Rattle.codebook_text.proofs.text.fill.Goals as goal
use Rattle.codebook_text.proofs.text.fill.Goals.{In-loop-entry}

-- the line at hand is good, and so are those after it
turn : (c : In-loop-entry) → Turn c.loop-entry.rest.now (length c.args.codebook.now - (c.loop-entry.entry-index + 1))
turn c =
    let L = c.loop-entry in
    lines_parts L.rest.now (length c.args.codebook.now) L.entry-index c.loop-entry-test.true L.invariant.good

pub unwrap-requires : goal.unwrap-requires
unwrap-requires c =
    let e = c.first_line.ensures.ended ∙ (turn (goal.at.unwrap-requires c).In-loop-entry).ended in
    search (rules, tests)

pub number-requires : goal.number-requires
number-requires c =
    let p = rw c.unwrap.ensures at c.first_line.ensures.parts in
    rw p.0 (turn (goal.at.number-requires c).In-loop-entry).good

pub loop-entry-preserved : goal.loop-entry-preserved
loop-entry-preserved c =
    let L = c.loop-entry in
    let t = turn (goal.at.loop-entry-preserved c).In-loop-entry in
    let p = rw c.unwrap.ensures at c.first_line.ensures.parts in
    let f : SFits w64 c.number.result = search rules in
    let v : to_z w64 (of_z w64 c.number.result) ≡ number_of (line_of L.rest.now) = to_z-of_z w64 c.number.result f ∙ (rw p.0 at c.number.ensures) in
    rw p.1 (record {
      good = t.rest;
      read = numbers_more L.rest.now (length c.args.codebook.now) L.entry-index c.loop-entry-test.true L.codebook _ _ (omega arith) v L.invariant.read;
    })

pub returns : goal.returns
returns c = let L = c.loop-entry in numbers_all _ L.codebook _ _ L.entry-index (omega arith) (omega arith) L.invariant.read
