-- Document 02, T-01: what one step of reading answers, for any text and any offset in it.
use Rattle.std.specs.Prelude.{ℕ, ◌+◌, ◌-◌, ◌/◌, ◌%◌, Bool, ◌&&◌, cond, List, leb, eqb, length, Option, None, Some, Result, Ok, Err}
use Rattle.refusal.specs.declared.Refusal.{Refusal}
use Rattle.refusal.specs.declared.Refusal.TheVariants.{BadLine}
use Rattle.session_lines.specs.Lines.{line_at, frame_of, line_refusal}
use Rattle.session_lines.specs.Headers.{bad_header_line, frames_in, first_place}
use Rattle.session_lines.specs.declared.header.LineRefusal.{LineRefusal}
use Rattle.session_reader.specs.declared.Step.{Step}

-- what stands at an offset: a frame, the end of the file, or a line that is refused
abbrev pub Answer : Type 0
Answer = Result (Option (List ℕ)) LineRefusal

abbrev pub refused : Refusal → ℕ → Answer
refused f line = Err (record { refusal = f; line = line })

-- a step that hands on no frame: the offset stays
abbrev pub stays : Answer → ℕ → Step
stays answer at = record { answer = answer; at = at }

-- a step that hands on a frame, or is refused; lines count from 1
abbrev pub handed_unless : Option Refusal → ℕ → List ℕ → ℕ → ℕ → Step
handed_unless None line frame at next = record { answer = Ok (Some frame); at = next }
handed_unless (Some f) line frame at next = stays (refused f line) at

-- where the line to read starts, the first frame's at `first`: reading begins at offset 0, before the three lines
abbrev pub place_of : ℕ → ℕ → ℕ
place_of first at = cond (eqb at 0) first at

-- how many frames' lines, 17 bytes each, stand before a place
abbrev pub frames_before : ℕ → ℕ → ℕ
frames_before first place = (place - first) / 17

-- the place is that of one of so many frames' lines, or the end of the last
unfoldable pub is_place : ℕ → ℕ → ℕ → Bool
is_place first frames place = leb first place && eqb ((place - first) % 17) 0 && leb (frames_before first place) frames

-- how many frames' lines stand before it, if it is one
abbrev pub placed : ℕ → ℕ → ℕ → Option ℕ
placed first frames place = cond (is_place first frames place) (Some (frames_before first place)) None

-- the line at a place, after those of k frames
unfoldable pub frame_step : List ℕ → ℕ → ℕ → ℕ → Step
frame_step text k at place = handed_unless (line_refusal (line_at text place)) (k + 4) (frame_of (line_at text place)) at (place + 17)

-- after the last frame the text ends, and any line more is bad
unfoldable pub last_step : List ℕ → ℕ → ℕ → ℕ → Step
last_step text k at place = cond (eqb (length text) place) (stays (Ok None) at) (stays (refused BadLine (k + 4)) at)

-- the step at a place
abbrev pub place_step : List ℕ → ℕ → ℕ → ℕ → ℕ → Step
place_step text frames k at place = cond (eqb k frames) (last_step text k at place) (frame_step text k at place)

-- an offset where no line can start is bad, as of line 0
abbrev pub step_placed : Option ℕ → List ℕ → ℕ → ℕ → ℕ → Step
step_placed None text frames at place = stays (refused BadLine 0) at
step_placed (Some k) text frames at place = place_step text frames k at place

-- the step after three good lines
unfoldable pub step_after : List ℕ → ℕ → ℕ → ℕ → Step
step_after text first frames at =
    let place = place_of first at in
    step_placed (placed first frames place) text frames at place

-- the step by the first bad one of the three lines
abbrev pub step_unless : Option ℕ → List ℕ → ℕ → Step
step_unless None text at = step_after text (first_place text) (frames_in text) at
step_unless (Some line) text at = stays (refused BadLine line) at

-- the step at any offset: the three lines are judged first
unfoldable pub step_at : List ℕ → ℕ → Step
step_at text at = step_unless (bad_header_line text) text at
