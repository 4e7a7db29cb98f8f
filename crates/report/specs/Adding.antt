-- A helper of the code: a part of a line is added in a lent buffer.
use Rattle.std.specs.Prelude.{ℕ, ◌≤◌, ◌≡◌, List, length}
use Rattle.text.specs.Placing.{PutIfRoom}
use Rattle.report.specs.declared.line.Line.{Line}

-- a text of at most so many bytes, added where there is room for it, in the same buffer
pub record Adds (before : Line) (text : List ℕ) (most : ℕ) (after : Line) : Type 0 where
  pub put : PutIfRoom before.out.now before.end text after.out.now after.end
  pub bound : length text ≤ most
  pub same : after.out.ghost_name ≡ before.out.ghost_name
