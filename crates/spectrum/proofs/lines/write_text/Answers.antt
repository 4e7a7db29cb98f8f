-- `spectrum::lines::write_text` meets its contract: a refusal, or the lines of both kinds of values one after the other. Assumes nothing.
use mathlib.Core.Path.{sym, ap, ◌∙◌}
use native.Mathlib.Omega.{arith}
use Prim.Native.Nat.{◌+◌, ◌≤◌}
use Rattle.std.specs.Prelude.{Result}
use Rattle.refusal.specs.declared.Refusal.{Refusal}
use Rattle.value_lines.specs.Lines.{refusal_line}
use Rattle.text.specs.Placing.{Appended}
use Rattle.text.proofs.Additions.{line_added}
use Rattle.spectrum.specs.declared.values.Spectrum.{Spectrum}
use Rattle.spectrum.specs.Lines.{text}
use Rattle.spectrum.proofs.Output.{counted}
use Rattle.spectrum.proofs.lines.write_text.Goals as goal
use Rattle.spectrum.proofs.lines.write_text.Goals.{After-end_of}

-- the line of the refusal is all that stands there
refused : (c : After-end_of) →
    let end = c.end_of.result in
    Appended c.args.out.now 0 (refusal_line c.number.result) c.refusal_line.new.out end × (end ≤ 0 + 22)
refused c =
    let w = c.refusal_line.ensures in
    line_added (refusal_line c.number.result) c.args.out.now _ 0 22 _ _ (w.answer, (w.written, w.bound)) c.end_of.ensures (omega arith)

pub returns-in-Err-clause-printed : goal.returns-in-Err-clause-printed
returns-in-Err-clause-printed c =
    (refused (goal.at.returns-in-Err-clause-printed c).After-end_of).0.1
    ∙ ap refusal_line c.number.ensures
    ∙ ap (λ (s : Result Spectrum Refusal). text s) (sym c.in-Err.is)

pub returns-in-Err-clause-size : goal.returns-in-Err-clause-size
returns-in-Err-clause-size c = counted _ _ (omega (arith, (refused (goal.at.returns-in-Err-clause-size c).After-end_of).1))
