-- `session_reader::steps::step_after` meets its contract: the place, then the line there. Assumes nothing.
use mathlib.Core.Path.{◌≡◌, sym, ap, ◌∙◌}
use mathlib.Core.List.{List}
use Prim.Native.Nat.{ℕ}
use borrow.Author.Tests.{eq-eqb, ne_eqb}
use Rattle.std.specs.Prelude.{Option, None, Some}
use Rattle.session_reader.specs.Steps.{place_of, placed, step_placed, step_after}
use Rattle.session_reader.proofs.steps.step_after.Goals as goal

-- the step by how many lines stand before the place
by_placed : (text : List ℕ) (first frames at place : ℕ) (k : Option ℕ) → place ≡ place_of first at → k ≡ placed first frames place
    → step_after text first frames at ≡ step_placed k text frames at place
unfolding step_after
by_placed text first frames at place k e f =
    (λ i. step_placed (placed first frames (sym e i)) text frames at (sym e i)) ∙ ap (λ (k : Option ℕ). step_placed k text frames at place) (sym f)

pub returns-in-None : goal.returns-in-None
returns-in-None c =
    let a = c.args in
    sym (by_placed a.text.now a.header.first a.header.frames a.at _ None c.place_of-place.ensures c.in-None.ensures.equal)

pub returns-in-Some : goal.returns-in-Some
returns-in-Some c =
    let a = c.args in
    let step = by_placed a.text.now a.header.first a.header.frames a.at _ (Some c.in-Some.k) c.place_of-place.ensures c.in-Some.ensures.equal in
    rw (step, eq-eqb _ _ c.if-k-header.true) c.last_step.ensures

pub returns-in-Some-2 : goal.returns-in-Some-2
returns-in-Some-2 c =
    let a = c.args in
    let step = by_placed a.text.now a.header.first a.header.frames a.at _ (Some c.in-Some.k) c.place_of-place.ensures c.in-Some.ensures.equal in
    rw (step, ne_eqb _ _ c.if-k-header.false) c.frame_step.ensures
