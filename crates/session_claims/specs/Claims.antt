-- Document 02, T-01: what is claimed of session files. Proved in the law file of this name.
use Rattle.std.specs.Prelude.{ℕ, ◌+◌, ◌≤◌, ◌<◌, ◌≡◌, true, List, [], ◌++◌, length, take, drop, None, Some, Ok, Err}
use Rattle.bits.specs.Lists.{Every}
use Rattle.refusal.specs.Refusals.{number_of}
use Rattle.refusal.specs.declared.Refusal.{Refusal}
use Rattle.order.specs.Order.{default_order, frame_refusal}
use Rattle.session.specs.Format.{file_line, order_line, count_line, header, frame_line, frame_lines, session_text, most_frames, most_text}
use Rattle.session.specs.Writing.{frames_of, joined, is_padded, text_of, write_refusal, write_answer, write_writes}
use Rattle.session_lines.specs.Lines.{line_of, Seven}
use Rattle.session_reader.specs.Steps.{step_at}
use Rattle.session_claims.specs.Reading.{reading}

-- a frame in the default order without padding bits
abbrev pub Good : List ℕ → Type 0
Good frame = (frame_refusal default_order frame ≡ None) × Every (λ b. b < 256) frame

-- the first bad line of a text, after the lines of good frames fs: its number counts from 1, and `number` is the refusal that it asks for
pub data FirstBad (text : List ℕ) (fs : List (List ℕ)) (number line : ℕ) : Type 0 where
  -- the first three lines
  file : fs ≡ [] → number ≡ 8 → line ≡ 1 → (line_of text ≡ file_line → ⊥) → FirstBad text fs number line
  order : (rest : List ℕ) → fs ≡ [] → number ≡ 8 → line ≡ 2 → text ≡ file_line ++ rest → (line_of rest ≡ order_line → ⊥) → FirstBad text fs number line
  count : (rest : List ℕ) → fs ≡ [] → number ≡ 8 → line ≡ 3 → text ≡ file_line ++ (order_line ++ rest)
      → ((n : ℕ) → n ≤ most_frames → line_of rest ≡ count_line n → ⊥) → FirstBad text fs number line
  -- fewer good frames than the third line says: the next line is that of no seven bytes, or of seven with padding bits
  formless : (n : ℕ) (rest : List ℕ) → n ≤ most_frames → length fs < n → Every Good fs → number ≡ 8 → line ≡ length fs + 4
      → text ≡ header n ++ (frame_lines fs ++ rest) → ((f : List ℕ) → Seven f → line_of rest ≡ frame_line f → ⊥) → FirstBad text fs number line
  padded : (n : ℕ) (rest f : List ℕ) → n ≤ most_frames → length fs < n → Every Good fs → number ≡ 3 → line ≡ length fs + 4
      → text ≡ header n ++ (frame_lines fs ++ rest) → Seven f → is_padded f ≡ true → line_of rest ≡ frame_line f → FirstBad text fs number line
  -- as many as it says, and something after them
  surplus : (rest : List ℕ) → length fs ≤ most_frames → Every Good fs → number ≡ 8 → line ≡ length fs + 4
      → text ≡ session_text fs ++ rest → (rest ≡ [] → ⊥) → FirstBad text fs number line

pub record Claims : Type 0 where
  -- the text of any list of frames is read back as that list, and ends
  pub back : (fs : List (List ℕ)) → length fs ≤ most_frames → Every Good fs → reading (session_text fs) ≡ record { frames = fs; answer = Ok None }
  -- a text read to its end is the text of the frames handed on, which the writer takes
  pub only : (text : List ℕ) → (reading text).answer ≡ Ok None
      → (length (reading text).frames ≤ most_frames) × Every Good (reading text).frames × (session_text (reading text).frames ≡ text)
  -- any other reading ends with a refusal, as the first bad line asks; the frames before that line are handed on
  pub refused : (text : List ℕ) (f : Refusal) (line : ℕ) → (reading text).answer ≡ Err (record { refusal = f; line = line })
      → FirstBad text (reading text).frames (number_of f) line
  pub ends : (text frame : List ℕ) → (reading text).answer ≡ Ok (Some frame) → ⊥
  -- a reader that has handed on no frame answers the same again
  pub again : (text : List ℕ) (at : ℕ) → ((frame : List ℕ) → (step_at text at).answer ≡ Ok (Some frame) → ⊥) → step_at text (step_at text at).at ≡ step_at text at
  -- what the writer wrote is read back as the frames that it was lent, and a text read to its end comes out of the writer with the same bytes
  pub written : (bytes out : List ℕ) → Every (λ b. b < 256) bytes → write_refusal bytes (length out) ≡ None
      → (reading (take (length (text_of bytes)) (write_writes bytes out)) ≡ record { frames = frames_of bytes; answer = Ok None }) × (joined (frames_of bytes) ≡ bytes)
  pub rewritten : (text out : List ℕ) → (reading text).answer ≡ Ok None → length text ≤ length out
      → (write_answer (joined (reading text).frames) (length out) ≡ Ok (length text))
      × (write_writes (joined (reading text).frames) out ≡ text ++ drop (length text) out)
  -- one byte more than the longest file has is enough of a text
  pub enough : (text : List ℕ) → reading (take (most_text + 1) text) ≡ reading text
