-- The offsets where lines of frames start: the step there, by how many of them come before. Assumes nothing.
use mathlib.Core.Path.{◌≡◌, refl, ap, ◌∙◌}
use mathlib.Core.Bool.{Bool, true, false, cond}
use mathlib.Core.List.{List}
use Prim.Native.Nat.{ℕ, ◌+◌, ◌-◌, ◌*◌, ◌/◌, ◌%◌, ◌≤◌, ◌<◌}
use native.Mathlib.Omega.{arith}
use lib.Dec.{eqb}
use borrow.Author.Tests.{le-leb, eq-eqb, ne_eqb}
use Rattle.std.specs.Prelude.{None}
use Rattle.session_lines.specs.Headers.{bad_header_line, frames_in, first_place}
use Rattle.session_reader.specs.Steps.{place_of, is_place, frame_step, last_step, place_step, step_after, step_at}

module _ (text : List ℕ) (k at : ℕ) (good : bad_header_line text ≡ None) (e : place_of (first_place text) at ≡ first_place text + 17 * k) where
  -- the place of the line after those of k frames
  abbrev place : ℕ
  place = first_place text + 17 * k

  -- the step there, after three good lines
  place_step_lem : k ≤ frames_in text → step_at text at ≡ place_step text (frames_in text) k at place
  unfolding step_at step_after is_place
  place_step_lem h =
      let first = first_place text in
      let rest : (first + 17 * k - first) % 17 ≡ 0 = omega arith in
      let lines : (first + 17 * k - first) / 17 ≡ k = omega arith in
      rw (good, e, le-leb first (first + 17 * k) (omega arith), rest, lines, le-leb k (frames_in text) h) refl

  -- the same by whether these are all frames
  steps_are : (b : Bool) → k ≤ frames_in text → eqb k (frames_in text) ≡ b → step_at text at ≡ cond b (last_step text k at place) (frame_step text k at place)
  steps_are b h q = place_step_lem h ∙ ap (λ (b : Bool). cond b (last_step text k at place) (frame_step text k at place)) q

  -- after the lines of all frames it is the last
  pub last_step_lem : k ≡ frames_in text → step_at text at ≡ last_step text k at place
  last_step_lem h = steps_are true (omega arith) (eq-eqb k (frames_in text) h)

  -- before that it is one for the next line
  pub frame_step_lem : k < frames_in text → step_at text at ≡ frame_step text k at place
  frame_step_lem h = steps_are false (omega arith) (ne_eqb k (frames_in text) (λ q. omega arith))
