-- A step that hands on no frame has none, and leaves the offset as it was. Assumes nothing.
use mathlib.Core.Path.{◌≡◌, refl}
use mathlib.Core.Bool.{Bool, true, false, cond}
use mathlib.Core.List.{List}
use Prim.Native.Nat.{ℕ, ◌+◌}
use lib.Dec.{eqb}
use lib.ListN.{length}
use Rattle.std.specs.Prelude.{Option, None, Some, Ok}
use Rattle.refusal.specs.declared.Refusal.{Refusal}
use Rattle.refusal.specs.declared.Refusal.TheVariants.{BadLine}
use Rattle.session_lines.specs.Lines.{line_at, frame_of, line_refusal}
use Rattle.session_lines.specs.Headers.{bad_header_line, frames_in, first_place}
use Rattle.session_reader.specs.Steps.{refused, stays, handed_unless, place_of, placed}
use Rattle.session_reader.specs.Steps.{frame_step, last_step, step_placed, step_after, step_unless, step_at}
use Rattle.session_reader.specs.declared.Step.{Step}

-- unless a frame is handed on, the offset stays
abbrev Stays : ℕ → Step → Type 0
Stays at s = ((frame : List ℕ) → s.answer ≡ Ok (Some frame) → ⊥) → s ≡ stays s.answer at

-- so after either of two steps
cond_stays : (at : ℕ) (b : Bool) (s t : Step) → Stays at s → Stays at t → Stays at (cond b s t)
cond_stays at true s t p q = p
cond_stays at false s t p q = q

-- so after a frame's line
handed_stays : (r : Option Refusal) (line : ℕ) (frame : List ℕ) (at next : ℕ) → Stays at (handed_unless r line frame at next)
handed_stays None line frame at next h = absurd (h frame refl)
handed_stays (Some f) line frame at next h = refl

-- so after three good lines
placed_stays : (text : List ℕ) (n at place : ℕ) (k : Option ℕ) → Stays at (step_placed k text n at place)
unfolding frame_step last_step
placed_stays text n at place None = λ h. refl
placed_stays text n at place (Some k) =
    let last = cond_stays at (eqb (length text) place) (stays (Ok None) at) (stays (refused BadLine (k + 4)) at) (λ h. refl) (λ h. refl) in
    let line = handed_stays (line_refusal (line_at text place)) (k + 4) (frame_of (line_at text place)) at (place + 17) in
    cond_stays at (eqb k n) (last_step text k at place) (frame_step text k at place) last line

-- so after any step
pub step_stays : (text : List ℕ) (at : ℕ) → Stays at (step_at text at)
unfolding step_at step_after
step_stays text at = go (bad_header_line text)
  where
    go : (b : Option ℕ) → Stays at (step_unless b text at)
    go None = let place = place_of (first_place text) at in placed_stays text (frames_in text) at place (placed (first_place text) (frames_in text) place)
    go (Some line) = λ h. refl
