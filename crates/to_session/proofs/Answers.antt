-- What the program owes by the answer of the writer. Assumes nothing.
use mathlib.Core.Path.{◌≡◌, refl, sym, ap, ◌∙◌}
use mathlib.Core.List.{List, []}
use Prim.Native.Nat.{ℕ, ◌≤◌}
use native.Mathlib.Omega.{arith}
use lib.ListN.{length, take, drop, length-append}
use lib.Seq.{take-append_seam}
use Rattle.std.specs.Prelude.{Option, None, Some, Result, Ok, Err}
use Rattle.bits.specs.Lists.{written_unless}
use Rattle.refusal.specs.Refusals.{number_of, unless}
use Rattle.refusal.specs.declared.Refusal.{Refusal}
use Rattle.value_lines.specs.Lines.{refusal_line}
use Rattle.session.specs.Writing.{text_of, write_answer, write_writes}
use Rattle.session.specs.Format.{most_text}
use Rattle.to_session.specs.Output.{most_input, refusal_of, file_unless, message_if, file, message, AllWritten}
use Rattle.to_session.proofs.Inputs.{read_enough}

module _ (bytes out : List ℕ) (room : length out ≡ most_text) (answer : Result ℕ Refusal) (after : List ℕ)
    (o : (answer ≡ write_answer bytes (length out)) × (after ≡ write_writes bytes out)) where
  -- the answer and the file by the refusal
  by_refusal : (r : Option Refusal) → refusal_of bytes ≡ r
      → (answer ≡ unless r (length (text_of bytes))) × (after ≡ written_unless r (length (text_of bytes)) (text_of bytes) out)
  unfolding write_answer write_writes
  by_refusal r e = rw (room, e) at o

  -- the text is written: it is the file, and nothing is told
  pub text_is : (end : ℕ) → answer ≡ Ok end → (end ≤ length after) × (take end after ≡ file bytes) × ([] ≡ message bytes)
  text_is end w = go (refusal_of bytes) refl
    where
      go : (r : Option Refusal) → refusal_of bytes ≡ r → (end ≤ length after) × (take end after ≡ file bytes) × ([] ≡ message bytes)
      go None e =
          let text = text_of bytes in
          let b = by_refusal None e in
          let n : end ≡ length text = cc in (
            omega (arith, n, ap length b.1, length-append text (drop (length text) out)),
            (λ i. take (n i) (b.1 i)) ∙ take-append_seam text (drop (length text) out) ∙ ap (λ (r : Option Refusal). file_unless r bytes) (sym e),
            ap message_if (sym e),
          )
      go (Some f) e = let b = by_refusal (Some f) e in cc

  -- the frames are refused: there is no file, and the number is told
  pub refusal_is : (f : Refusal) → answer ≡ Err f → ([] ≡ file bytes) × (refusal_line (number_of f) ≡ message bytes)
  refusal_is f w = go (refusal_of bytes) refl
    where
      go : (r : Option Refusal) → refusal_of bytes ≡ r → ([] ≡ file bytes) × (refusal_line (number_of f) ≡ message bytes)
      go None e = let b = by_refusal None e in cc
      go (Some g) e =
          let b = by_refusal (Some g) e in
          let m : f ≡ g = cc in
          (ap (λ (r : Option Refusal). file_unless r bytes) (sym e), ap (λ (h : Refusal). refusal_line (number_of h)) m ∙ ap message_if (sym e))

-- what is owed for the input from which a buffer was read
module _ (buffer : List ℕ) (size : ℕ) (full : length buffer ≡ most_input) (out : List ℕ) (room : length out ≡ most_text) (answer : Result ℕ Refusal) (after : List ℕ)
    (o : (answer ≡ write_answer (take size buffer) (length out)) × (after ≡ write_writes (take size buffer) out)) where
  -- after an answer with the end of the text
  pub text_owes : (end : ℕ) → answer ≡ Ok end → AllWritten buffer size (take end after) []
  text_owes end w input read =
      let q = text_is (take size buffer) out room answer after o end w in
      let same = read_enough buffer input size full read in
      (q.1 ∙ same.0, q.2 ∙ same.1)

  -- after a refusal
  pub refusal_owes : (f : Refusal) → answer ≡ Err f → AllWritten buffer size [] (refusal_line (number_of f))
  refusal_owes f w input read =
      let q = refusal_is (take size buffer) out room answer after o f w in
      let same = read_enough buffer input size full read in
      (q.0 ∙ same.0, q.1 ∙ same.1)
