-- Document 02, T-01: the three lines before the frames, each judged in turn.
use Rattle.std.specs.Prelude.{ℕ, ◌+◌, Bool, cond, List, length, Option, None, Some, Result, Ok, Err}
use Rattle.refusal.specs.declared.Refusal.TheVariants.{BadLine}
use Rattle.session.specs.Format.{file_line, order_line, header}
use Rattle.session_lines.specs.Lines.{line_at, same_bytes, count_of, is_count_line}
use Rattle.session_lines.specs.declared.header.Header.{Header}
use Rattle.session_lines.specs.declared.header.LineRefusal.{LineRefusal}

-- the third line
abbrev pub third_line : List ℕ → List ℕ
third_line text = line_at text (length file_line + length order_line)

-- the first bad one of three lines, counted from 1, by whether each is good
abbrev pub first_bad : Bool → Bool → Bool → Option ℕ
first_bad file order count = cond file (cond order (cond count None (Some 3)) (Some 2)) (Some 1)

-- the first bad one of the three
unfoldable pub bad_header_line : List ℕ → Option ℕ
bad_header_line text =
    first_bad (same_bytes (line_at text 0) file_line) (same_bytes (line_at text (length file_line)) order_line) (is_count_line (third_line text))

-- how many frames they promise
unfoldable pub frames_in : List ℕ → ℕ
frames_in text = count_of (third_line text)

-- where the first frame's line starts
unfoldable pub first_place : List ℕ → ℕ
first_place text = length (header (frames_in text))

-- what they tell: how many frames there are and where the first one's line starts, or the first bad one
abbrev pub told_unless : Option ℕ → List ℕ → Result Header LineRefusal
told_unless None text = Ok (record { frames = frames_in text; first = first_place text })
told_unless (Some line) text = Err (record { refusal = BadLine; line = line })

unfoldable pub header_of : List ℕ → Result Header LineRefusal
header_of text = told_unless (bad_header_line text) text
