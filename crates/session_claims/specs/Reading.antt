-- Document 02, T-01: a whole reading of a text, step after step from offset 0 until one hands on no frame.
use Rattle.std.specs.Prelude.{ℕ, zero, suc, List, [], ◌∷◌, None, Some, Ok, Err}
use Rattle.session.specs.Format.{most_frames}
use Rattle.session_reader.specs.Steps.{Answer, step_at}

-- the frames handed on, and the answer of the last step
pub record Reading : Type 0 where
  pub frames : List (List ℕ)
  pub answer : Answer

-- a frame before a reading
abbrev pub and_then : List ℕ → Reading → Reading
and_then frame r = record { frames = frame ∷ r.frames; answer = r.answer }

-- no frame
abbrev pub ends_by : Answer → Reading
ends_by answer = record { frames = []; answer = answer }

-- a step, and the reading after it where it hands on a frame
abbrev pub onward : Answer → Reading → Reading
onward (Ok (Some frame)) rest = and_then frame rest
onward (Ok None) rest = ends_by (Ok None)
onward (Err r) rest = ends_by (Err r)

-- a reading from an offset on, of at most n frames
unfoldable pub reading_from : ℕ → List ℕ → ℕ → Reading
reading_from zero text at = ends_by (step_at text at).answer
reading_from (suc n) text at = onward (step_at text at).answer (reading_from n text (step_at text at).at)

-- the whole reading: a file has at most 2,000 frames
abbrev pub reading : List ℕ → Reading
reading text = reading_from most_frames text 0
