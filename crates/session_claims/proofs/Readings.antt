-- A whole reading: of a text with a bad line before the frames, and of any other by what follows its three lines. Assumes nothing.
use mathlib.Core.Path.{◌≡◌, refl, sym, ap, ◌∙◌}
use mathlib.Core.Bool.{Bool, true, false, cond}
use mathlib.Core.List.{List, [], ◌∷◌}
use Prim.Native.Nat.{ℕ, zero, suc, ◌+◌, ◌*◌, ◌≤◌}
use native.Mathlib.Omega.{arith}
use lib.Dec.{eqb}
use lib.ListN.{length, drop, length-append, length-drop, drop_of_length-le}
use lib.Seq.{drop-cons, drop-drop}
use borrow.Author.Tests.{ne_eqb, eqb-true, eqb-false}
use Rattle.std.specs.Prelude.{Option, None, Some, Ok}
use Rattle.refusal.specs.declared.Refusal.{Refusal}
use Rattle.refusal.specs.declared.Refusal.TheVariants.{BadLine}
use Rattle.session.specs.Format.{header, most_frames}
use Rattle.session_lines.specs.Lines.{line_at, frame_of, line_refusal}
use Rattle.session_lines.specs.Headers.{bad_header_line, frames_in, first_place}
use Rattle.session_reader.specs.Steps.{refused, stays, handed_unless, place_of, frame_step, last_step, step_at}
use Rattle.session_claims.specs.Reading.{Reading, and_then, ends_by, onward, reading_from, reading}
use Rattle.session_reader.specs.declared.Step.{Step}
use Rattle.session_lines.proofs.FrameScans.{frame_is}
use Rattle.session_lines.proofs.Headers.{good_header}
use Rattle.session_claims.proofs.Refusals.{Judged, judged}
use Rattle.session_claims.proofs.Places.{last_step_lem, frame_step_lem}
use Rattle.session_claims.proofs.Rests.{end_answer, handed, rest_reading}

-- a bad line before the frames ends every reading
reading_stops : (m : ℕ) (text : List ℕ) (at line : ℕ) → bad_header_line text ≡ Some line → reading_from m text at ≡ ends_by (refused BadLine line)
unfolding reading_from step_at
reading_stops zero text at line e = rw e refl
reading_stops (suc m) text at line e = rw e refl

pub reading_bad : (text : List ℕ) (line : ℕ) → bad_header_line text ≡ Some line → reading text ≡ ends_by (refused BadLine line)
reading_bad text line e = reading_stops most_frames text 0 line e

-- the last step answers by what is left
last_answer : (text : List ℕ) (k at place : ℕ) → place ≤ length text → (last_step text k at place).answer ≡ end_answer (drop place text) k
unfolding last_step
last_answer text k at place h = go (eqb (length text) place) refl
  where
    go : (b : Bool) → eqb (length text) place ≡ b → (cond b (stays (Ok None) at) (stays (refused BadLine (k + 4)) at)).answer ≡ end_answer (drop place text) k
    go true e = rw (drop_of_length-le text {i = place} (omega (arith, eqb-true (length text) place e))) refl
    go false e = rw (drop-cons text place 0 (omega (arith, eqb-false (length text) place e))) refl

-- a reading stops with it
end_stops : (m : ℕ) (text : List ℕ) (at : ℕ) (t : List ℕ) (k : ℕ) → (step_at text at).answer ≡ end_answer t k → reading_from m text at ≡ ends_by (end_answer t k)
unfolding reading_from
end_stops zero text at t k e = ap ends_by e
end_stops (suc m) text at [] k e = rw e refl
end_stops (suc m) text at (c ∷ cs) k e = rw e refl

module _ (text : List ℕ) (good : bad_header_line text ≡ None) where
  -- from the line after those of k frames on, with j frames to come
  reading_from_lem : (m j k at : ℕ) → k + j ≡ frames_in text → j ≤ m → place_of (first_place text) at ≡ first_place text + 17 * k
      → first_place text + 17 * k ≤ length text → reading_from m text at ≡ rest_reading j (drop (first_place text + 17 * k) text) k
  unfolding reading_from rest_reading frame_step
  reading_from_lem m zero k at n h e room =
      let place = first_place text + 17 * k in
      let step = last_step_lem text k at good e (omega arith) in
      end_stops m text at (drop place text) k (ap (λ (s : Step). s.answer) step ∙ last_answer text k at place room)
  reading_from_lem zero (suc j) k at n h e room = absurd (omega arith)
  reading_from_lem (suc m) (suc j) k at n h e room =
      ap next (frame_step_lem text k at good e (omega arith)) ∙ go (line_refusal l) (judged l) (reading_from_lem m j (suc k) (place + 17) (omega arith) (omega arith))
    where
      place : ℕ
      place = first_place text + 17 * k

      l : List ℕ
      l = line_at text place

      next : Step → Reading
      next s = onward s.answer (reading_from m text s.at)

      go : (r : Option Refusal) → Judged l r → (place_of (first_place text) (place + 17) ≡ first_place text + 17 * suc k → first_place text + 17 * suc k ≤ length text
          → reading_from m text (place + 17) ≡ rest_reading j (drop (first_place text + 17 * suc k) text) (suc k))
          → next (handed_unless r (k + 4) (frame_of l) at (place + 17)) ≡ handed r (k + 4) (frame_of l) (rest_reading j (drop 17 (drop place text)) (suc k))
      go None (Judged.formless z f) more = absurd cc
      go None (Judged.padded z f p) more = absurd cc
      go None (Judged.taken z f g) more =
          let eq : place + 17 ≡ first_place text + 17 * suc k = omega arith in
          let there = ap (λ (b : Bool). cond b (first_place text) (place + 17)) (ne_eqb (place + 17) 0 (λ q. omega arith)) ∙ eq in
          let rest : drop (first_place text + 17 * suc k) text ≡ drop 17 (drop place text) =
          ap (λ (p : ℕ). drop p text) (sym eq) ∙ sym (drop-drop 17 place text) in
          ap (and_then (frame_of l)) (more there (omega (arith, (frame_is (drop place text) f).0, length-drop place text))
          ∙ ap (λ (t : List ℕ). rest_reading j t (suc k)) rest)
      go (Some r) d more = refl

  -- the whole reading is that of what follows the three lines
  pub reading_good : reading text ≡ rest_reading (frames_in text) (drop (first_place text) text) 0
  unfolding first_place
  reading_good =
      let p = good_header text good in
      let first = first_place text in
      let zero-place : first + 17 * 0 ≡ first = omega arith in
      let room : first ≤ length text = omega (arith, ap length p.0, length-append (header (frames_in text)) (drop first text)) in
      reading_from_lem most_frames (frames_in text) 0 0 (omega arith) p.1 (omega arith) (omega arith)
      ∙ ap (λ (k : ℕ). rest_reading (frames_in text) (drop k text) 0) zero-place
