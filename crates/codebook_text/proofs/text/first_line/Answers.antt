-- `codebook_text::text::first_line` meets its contract: the first line end parts the line from what follows it. Assumes nothing.
use mathlib.Core.Path.{◌≡◌, sym, ◌∙◌}
use mathlib.Core.Bool.{cond}
use native.Mathlib.Omega.{arith}
use Prim.Native.Nat.{ℕ}
use lib.Dec.{eqb, ltb}
use lib.ListN.{length, length-drop}
use lib.Seq.{take_all}
use borrow.Author.Tests.{tests}
use Rattle.std.specs.Prelude.{None, Some}
use Rattle.std.proofs.Common.{rules}
use Rattle.std.proofs.lemmas.Iterator.{YieldsList-from_slice}
use Rattle.std.proofs.lemmas.Iterator.Search.{position_from_yields_List}
use Rattle.codebook_text.specs.Text.{line_of}
use Rattle.codebook_text.proofs.Lines.{line_end, unended, found, Found}
use Rattle.codebook_text.proofs.text.first_line.Goals as goal
use Rattle.codebook_text.proofs.text.first_line.Goals.{After-position, In_ok-end}

-- where the first line end is
place : (c : After-position) →
    let t = c.args.text.now in
    c.position.result ≡ cond (ltb (length (line_of t)) (length t)) (Some (length (line_of t))) None
place c =
    let t = c.args.text.now in
    let e = position_from_yields_List (λ (c : ℕ). eqb c 10) _ _ c.position.result c.position.ensures.ran (YieldsList-from_slice t cc) (λ x b q k. search (rules, tests)) in
    rw line_end at e

pub returns-in_err-end-clause-ended : goal.returns-in_err-end-clause-ended
returns-in_err-end-clause-ended c =
    let e = unended c.args.text.now _ (place (goal.at.returns-in_err-end-clause-ended c).After-position) c.in_err-end.was in
    rw e (search rules)

parts : (c : In_ok-end) → Found c.args.text.now c.in_ok-end.end
parts c = found c.args.text.now _ _ (place (goal.at.In_ok-end c).After-position) c.in_ok-end.was

pub returns-clause-ended : goal.returns-clause-ended
returns-clause-ended c = sym (parts (goal.at.returns-clause-ended c).In_ok-end).ended

pub returns-clause-parts : goal.returns-clause-parts
returns-clause-parts c =
    let p = parts (goal.at.returns-clause-parts c).In_ok-end in
    (p.line, take_all _ _ (omega (arith, length-drop {A = ℕ})) ∙ p.rest)
