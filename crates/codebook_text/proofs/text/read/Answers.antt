-- `codebook_text::text::read` meets its contract: a refused text is refused before anything is written. Assumes nothing.
use mathlib.Core.Path.{◌≡◌, sym, ◌∙◌}
use mathlib.Core.Bool.{true}
use Rattle.codebook_text.specs.Text.{is_lines}
use Rattle.codebook_text.proofs.Answers.{size_owes, lines_owe, numbers_owe}
use Rattle.codebook_text.proofs.text.read.Goals as goal
use Rattle.codebook_text.proofs.text.read.Goals.{Then-is_lines}

-- the text that passed the test
good : (c : Then-is_lines) → is_lines c.args.size c.args.text.now ≡ true
good c = sym c.is_lines.ensures ∙ c.if-is_lines.true

pub returns-then-codebook-size : goal.returns-then-codebook-size
returns-then-codebook-size c =
    let s = c.args in
    let p = size_owes s.size s.text.now s.codebook.now c.if-codebook-size.true in record { answer = p.0; written = p.1 }

pub fill-requires : goal.fill-requires
fill-requires c =
    rw c.if-codebook-size.false (good (goal.at.fill-requires c).Then-is_lines)

pub returns-then-is_lines : goal.returns-then-is_lines
returns-then-is_lines c =
    let x = c in
    let s = x.args in
    let r = numbers_owe s.size s.text.now s.codebook.now x.if-codebook-size.false (good (goal.at.returns-then-is_lines x).Then-is_lines) in
    record { answer = r.0; written = c.fill.ensures ∙ r.1 }

pub returns-else-is_lines : goal.returns-else-is_lines
returns-else-is_lines c =
    let s = c.args in
    let p = lines_owe s.size s.text.now s.codebook.now (sym c.is_lines.ensures ∙ c.if-is_lines.false) in record { answer = p.0; written = p.1 }
