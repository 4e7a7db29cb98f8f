-- Texts and lists of good frames: each list is read back from its text, and each text read to its end is that of its list. Assumes nothing.
use mathlib.Core.Path.{◌≡◌, refl, sym, ap, ◌∙◌}
use mathlib.Core.List.{List, ◌++◌}
use Prim.Native.Nat.{ℕ, ◌≤◌}
use native.Mathlib.Omega.{arith}
use lib.ListN.{length, drop}
use lib.Seq.{drop-append_seam}
use Rattle.bits.specs.Lists.{Every}
use Rattle.std.specs.Prelude.{Option, None, Some, Ok}
use Rattle.session.specs.Format.{header, frame_lines, session_text, most_frames}
use Rattle.session_lines.specs.Headers.{bad_header_line, frames_in, first_place}
use Rattle.session_claims.specs.Reading.{Reading, reading}
use Rattle.session_claims.specs.Claims.{Good}
use Rattle.session_lines.proofs.Headers.{good_header, header_good, header_frames, header_place}
use Rattle.session_claims.proofs.Rests.{rest_reading, rest_back, rest_only}
use Rattle.session_claims.proofs.Readings.{reading_bad, reading_good}

-- the text of good frames is read back as these frames, and ends
pub text_back : (fs : List (List ℕ)) → length fs ≤ most_frames → Every Good fs → reading (session_text fs) ≡ record { frames = fs; answer = Ok None }
unfolding session_text
text_back fs h g =
    let n = length fs in
    let rest = frame_lines fs in
    let text = header n ++ rest in
    let frames = header_frames n rest h in
    let place = header_place n rest h in
    reading_good text (header_good n rest h)
    ∙ (λ i. rest_reading (frames i) (drop (place i) text) 0)
    ∙ ap (λ (t : List ℕ). rest_reading n t 0) (drop-append_seam (header n) rest)
    ∙ rest_back fs 0 g

-- what a reading to the end tells
abbrev Whole : List ℕ → Reading → Type 0
Whole text r = r.answer ≡ Ok None → (length r.frames ≤ most_frames) × Every Good r.frames × (session_text r.frames ≡ text)

-- a text read to its end is that of the good frames handed on
pub text_only : (text : List ℕ) → Whole text (reading text)
unfolding session_text
text_only text = go (bad_header_line text) refl
  where
    go : (b : Option ℕ) → bad_header_line text ≡ b → Whole text (reading text)
    go (Some b) e = rw (reading_bad text b e) (λ q. absurd cc)
    go None e =
        let n = frames_in text in
        let rest = drop (first_place text) text in
        let h = good_header text e in
        rw (reading_good text e) (λ q. let p = rest_only n rest 0 q in (omega arith, p.1, (λ i. header (p.0 i) ++ p.2 i) ∙ sym h.0))
