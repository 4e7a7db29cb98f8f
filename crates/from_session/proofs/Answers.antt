-- What the program owes by the answer after the frames: what is read of the input is enough, the frames stand in front of the output, and a refusal
-- is told. Assumes nothing.
use mathlib.Core.Path.{◌≡◌, sym, ap, ◌∙◌}
use mathlib.Core.List.{List}
use Prim.Native.Nat.{ℕ}
use lib.ListN.{length, take, drop}
use lib.Seq.{take_at}
use Rattle.bits.specs.Lists.{ReadFrom}
use Rattle.session.specs.Writing.{joined}
use Rattle.session_claims.specs.Reading.{Reading, reading}
use Rattle.session_reader.specs.Steps.{Answer}
use Rattle.session_claims.proofs.Claims.{claims}
use Rattle.from_session.specs.Output.{most_input, frames, message_of, AllWritten}
use Rattle.from_session.proofs.Turns.{Owed}

-- the bytes that were read into a buffer of so many are read as the input is
read_enough : (buffer input : List ℕ) (size : ℕ) → length buffer ≡ most_input → ReadFrom buffer size input → reading (take size buffer) ≡ reading input
read_enough buffer input size full read = ap reading (read ∙ ap (λ (m : ℕ). take m input) full) ∙ claims.enough input

module _ (buffer : List ℕ) (size : ℕ) (full : length buffer ≡ most_input) (out : List ℕ) (answer : Answer) (end : ℕ) (after : List ℕ)
    (o : Owed (take size buffer) out answer end after) where
  -- the frames are in front of the output, and the message is that for the answer
  pub told_owes : (errors : List ℕ) → errors ≡ message_of answer → AllWritten buffer size (take end after) errors
  unfolding frames
  told_owes errors m input read =
      let bytes = joined (reading (take size buffer)).frames in
      let front : take end after ≡ bytes = ap (take end) o.1.1 ∙ take_at bytes (drop end out) end (sym o.1.0) in
      let same = read_enough buffer input size full read in (
        front ∙ ap (λ (r : Reading). joined r.frames) same,
        m ∙ ap message_of o.0 ∙ ap (λ (r : Reading). message_of r.answer) same,
      )
