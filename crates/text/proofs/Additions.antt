-- A line for which there is room is added to the text. Assumes nothing.
use mathlib.Core.Path.{◌≡◌}
use mathlib.Core.List.{List}
use Prim.Native.Nat.{ℕ, ◌+◌, ◌≤◌}
use native.Mathlib.Omega.{arith}
use lib.ListN.{length}
use Rattle.std.specs.Prelude.{Result}
use Rattle.refusal.specs.declared.Refusal.{Refusal}
use Rattle.text.specs.Placing.{place_answer, place_writes, end_of, Appended}
use Rattle.text.proofs.Answers.{owed_put}
use Rattle.text.proofs.Puts.{put_appended}

module _ (text out after : List ℕ) (at most : ℕ) (answer : Result ℕ Refusal) (end : ℕ) where
  -- what a call for a line owes, where the buffer has room for `most` bytes
  pub line_added : (answer ≡ place_answer text at (length out)) × ((after ≡ place_writes text at out) × (length text ≤ most))
      → end ≡ end_of answer at → at + most ≤ length out → Appended out at text after end × (end ≤ at + most)
  line_added h e room =
      let p = owed_put text at out after answer end (h.0, h.1.0) e (omega (arith, h.1.1)) in
      (put_appended out after at end text (omega arith) p, omega (arith, p.0, h.1.1))
