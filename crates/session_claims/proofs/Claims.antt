-- What is claimed of session files. Assumes nothing.
use mathlib.Core.Path.{◌≡◌, refl, sym, ap, ◌∙◌}
use mathlib.Core.List.{List, []}
use Prim.Native.Nat.{ℕ, ◌+◌}
use native.Mathlib.Omega.{arith}
use lib.ListN.{drop}
use Rattle.std.specs.Prelude.{Option, None, Some, Ok}
use Rattle.refusal.specs.Refusals.{number_of}
use Rattle.refusal.specs.declared.Refusal.{Refusal}
use Rattle.refusal.specs.declared.Refusal.TheVariants.{BadLine}
use Rattle.session.specs.Format.{frame_lines, most_text}
use Rattle.session_lines.specs.Headers.{bad_header_line, frames_in, first_place}
use Rattle.session_reader.specs.Steps.{refused, step_at}
use Rattle.session_claims.specs.Reading.{reading}
use Rattle.session_claims.specs.Claims.{FirstBad, Claims}
use Rattle.session_reader.specs.declared.Step.{Step}
use Rattle.session_claims.proofs.Refusals.{refused_only}
use Rattle.session_lines.proofs.Headers.{good_header}
use Rattle.session_claims.proofs.Rests.{rest_ends}
use Rattle.session_claims.proofs.Readings.{reading_bad, reading_good}
use Rattle.session_claims.proofs.BadHeaders.{bad_header}
use Rattle.session_claims.proofs.BadLines.{rest_refused}
use Rattle.session_claims.proofs.Repeats.{step_stays}
use Rattle.session_claims.proofs.LongTexts.{reading_take}
use Rattle.session_claims.proofs.Roundtrips.{text_back, text_only}
use Rattle.session_claims.proofs.Writers.{written_back, rewritten_back}

module _ (text : List ℕ) where
  -- a refusal is what the first bad line asks for
  refused_by : (f : Refusal) (line : ℕ) → (reading text).answer ≡ refused f line → FirstBad text (reading text).frames (number_of f) line
  unfolding frame_lines
  refused_by f line = go (bad_header_line text) refl
    where
      go : (b : Option ℕ) → bad_header_line text ≡ b → (reading text).answer ≡ refused f line → FirstBad text (reading text).frames (number_of f) line
      go (Some b) e =
          rw (reading_bad text b e) λ q. let p = refused_only BadLine f b line q in
          bad_header text (number_of f) line p.0 (e ∙ ap Some (sym p.1))
      go None e =
          let h = good_header text e in
          let n = frames_in text in
          rw (reading_good text e) (rest_refused text n f line h.1 n (drop (first_place text) text) 0 [] refl (omega arith) tt h.0)

  -- no reading ends with a frame
  ends : (frame : List ℕ) → (reading text).answer ≡ Ok (Some frame) → ⊥
  ends frame = go (bad_header_line text) refl
    where
      go : (b : Option ℕ) → bad_header_line text ≡ b → (reading text).answer ≡ Ok (Some frame) → ⊥
      go (Some b) e = rw (reading_bad text b e) (λ q. cc)
      go None e = rw (reading_good text e) (rest_ends (frames_in text) (drop (first_place text) text) 0 frame)

pub claims : Claims
claims = record {
  back = text_back;
  only = text_only;
  refused = refused_by;
  ends = ends;
  again = λ text at h. ap (λ (s : Step). step_at text s.at) (step_stays text at h);
  written = written_back;
  rewritten = rewritten_back;
  enough = λ text. reading_take text (most_text + 1) (omega arith);
}
