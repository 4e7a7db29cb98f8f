-- `session_reader::steps::parse_at` meets its contract: the step after three good lines, or the first bad one. Assumes nothing.
use mathlib.Core.Path.{sym, ap}
use native.Mathlib.Omega.{arith}
use Rattle.std.specs.Prelude.{Err}
use Rattle.session_lines.specs.declared.header.LineRefusal.{LineRefusal}
use Rattle.session_lines.proofs.Headers.{good_header}
use Rattle.session_lines.proofs.LinesRead.{header_refused, header_taken}
use Rattle.session_reader.specs.Steps.{stays, step_at}
use Rattle.session_reader.proofs.steps.parse_at.Goals as goal

pub returns-in-Err : goal.returns-in-Err
unfolding step_at
returns-in-Err c =
    let p = header_refused c.args.text.now c.in-Err.refusal (sym c.in-Err.ensures) in
    rw p.0 (ap (λ (r : LineRefusal). stays (Err r) c.args.at) p.1)

pub step_after-requires : goal.step_after-requires
step_after-requires c =
    let text = c.args.text.now in
    let p = header_taken text c.in-Ok.header (sym c.in-Ok.ensures) in
    omega (arith, p.1.0, (good_header text p.0).1)

pub returns-in-Ok : goal.returns-in-Ok
unfolding step_at
returns-in-Ok c =
    let p = header_taken c.args.text.now c.in-Ok.header (sym c.in-Ok.ensures) in
    rw (p.0, ← p.1.0, ← p.1.1) c.step_after.ensures
