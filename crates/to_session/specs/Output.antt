-- Document 02, T-01, and its program `to_session`: what goes to standard output and to standard error for the frames on standard input.
use Rattle.std.specs.Prelude.{ℕ, ◌+◌, ◌*◌, ◌≡◌, List, [], Option, None, Some}
use Rattle.bits.specs.Lists.{ReadFrom}
use Rattle.refusal.specs.Refusals.{number_of}
use Rattle.refusal.specs.declared.Refusal.{Refusal}
use Rattle.value_lines.specs.Lines.{refusal_line}
use Rattle.session.specs.Format.{most_frames, most_text}
use Rattle.session.specs.Writing.{text_of, write_refusal}

-- as many bytes as are read: one more than 2,000 frames have
abbrev pub most_input : ℕ
most_input = 7 * most_frames + 1

-- the refusal of the frames, for which there is room
abbrev pub refusal_of : List ℕ → Option Refusal
refusal_of input = write_refusal input most_text

-- the file, nothing where they are refused
abbrev pub file_unless : Option Refusal → List ℕ → List ℕ
file_unless None input = text_of input
file_unless (Some f) input = []

-- the line of the refusal, nothing where there is none
abbrev pub message_if : Option Refusal → List ℕ
message_if None = []
message_if (Some f) = refusal_line (number_of f)

-- what is written for all of standard input
abbrev pub file : List ℕ → List ℕ
file input = file_unless (refusal_of input) input

abbrev pub message : List ℕ → List ℕ
message input = message_if (refusal_of input)

-- both, for every input from which a buffer and the count of its bytes were read
abbrev pub AllWritten : List ℕ → ℕ → List ℕ → List ℕ → Type 0
AllWritten buffer size out errors = (input : List ℕ) → ReadFrom buffer size input → (out ≡ file input) × (errors ≡ message input)
