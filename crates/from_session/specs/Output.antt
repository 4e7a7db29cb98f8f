-- Document 02, T-01, and its program `from_session`: what goes to standard output and to standard error for the session file on standard input.
use Rattle.std.specs.Prelude.{ℕ, ◌+◌, ◌≡◌, List, [], ◌++◌, Ok, Err}
use Rattle.bits.specs.Lists.{ReadFrom}
use Rattle.refusal.specs.Refusals.{number_of}
use Rattle.text.specs.Text.{ascii, decimal, field}
use Rattle.session.specs.Format.{most_text}
use Rattle.session.specs.Writing.{joined}
use Rattle.session_claims.specs.Reading.{reading}
use Rattle.session_reader.specs.Steps.{Answer}

-- as many bytes as are read: one more than the longest file has
abbrev pub most_input : ℕ
most_input = most_text + 1

-- the frames of all of standard input, seven bytes each; those before a bad line
unfoldable pub frames : List ℕ → List ℕ
frames input = joined (reading input).frames

-- the line of a refusal: its number, and that of the bad line
unfoldable pub refusal_line : ℕ → ℕ → List ℕ
refusal_line n line = field "refused=" (decimal n) ++ (field " line=" (decimal line) ++ ascii "\n")

-- nothing where there is none
abbrev pub message_of : Answer → List ℕ
message_of (Ok frame) = []
message_of (Err r) = refusal_line (number_of r.refusal) r.line

abbrev pub message : List ℕ → List ℕ
message input = message_of (reading input).answer

-- both, for every input from which a buffer and the count of its bytes were read
abbrev pub AllWritten : List ℕ → ℕ → List ℕ → List ℕ → Type 0
AllWritten buffer size out errors = (input : List ℕ) → ReadFrom buffer size input → (out ≡ frames input) × (errors ≡ message input)
