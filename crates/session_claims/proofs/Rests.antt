-- What a reading makes of the rest of a text, so many frames' lines and the end: it takes the lines of good frames and nothing else. Assumes nothing.
use mathlib.Core.Path.{◌≡◌, refl, sym, ap, ◌∙◌}
use mathlib.Core.Bool.{true}
use mathlib.Core.List.{List, [], ◌∷◌, ◌++◌}
use Prim.Native.Nat.{ℕ, zero, suc, ◌+◌}
use lib.ListN.{length, drop, take-append-drop}
use lib.Seq.{drop_at}
use Rattle.std.specs.Prelude.{Option, None, Some, Ok}
use Rattle.bits.specs.Lists.{Every}
use Rattle.refusal.specs.declared.Refusal.{Refusal}
use Rattle.refusal.specs.declared.Refusal.TheVariants.{BadLine}
use Rattle.session.specs.Format.{frame_line, frame_lines}
use Rattle.session_lines.specs.Lines.{line_of, is_frame_line, frame_of, line_refusal}
use Rattle.session_claims.specs.Claims.{Good}
use Rattle.session_claims.specs.Reading.{Reading, and_then, ends_by}
use Rattle.session_reader.specs.Steps.{Answer, refused}
use Rattle.session_lines.proofs.FrameLines.{line_back, frame_back, frame_line_first}
use Rattle.session_lines.proofs.FrameScans.{frame_is}
use Rattle.session_claims.proofs.Refusals.{Judged, judged, good_seven, good_taken}

-- the answer after the last of k frames
abbrev pub end_answer : List ℕ → ℕ → Answer
end_answer [] k = Ok None
end_answer (c ∷ cs) k = refused BadLine (k + 4)

-- a frame and the reading after it, or a refusal
abbrev pub handed : Option Refusal → ℕ → List ℕ → Reading → Reading
handed None line frame rest = and_then frame rest
handed (Some f) line frame rest = ends_by (refused f line)

-- the reading of what is left, with j frames to come after k
unfoldable pub rest_reading : ℕ → List ℕ → ℕ → Reading
rest_reading zero t k = ends_by (end_answer t k)
rest_reading (suc j) t k = handed (line_refusal (line_of t)) (k + 4) (frame_of (line_of t)) (rest_reading j (drop 17 t) (suc k))

-- a reading of the rest ends
pub rest_ends : (j : ℕ) (t : List ℕ) (k : ℕ) (frame : List ℕ) → (rest_reading j t k).answer ≡ Ok (Some frame) → ⊥
unfolding rest_reading
rest_ends zero [] k frame e = cc
rest_ends zero (c ∷ cs) k frame e = cc
rest_ends (suc j) t k frame e = go (line_refusal (line_of t)) (rest_ends j (drop 17 t) (suc k) frame) e
  where
    go : (r : Option Refusal) → ((rest_reading j (drop 17 t) (suc k)).answer ≡ Ok (Some frame) → ⊥)
        → (handed r (k + 4) (frame_of (line_of t)) (rest_reading j (drop 17 t) (suc k))).answer ≡ Ok (Some frame) → ⊥
    go None more e = more e
    go (Some f) more e = cc

-- the lines of good frames are read back as these frames
pub rest_back : (fs : List (List ℕ)) (k : ℕ) → Every Good fs → rest_reading (length fs) (frame_lines fs) k ≡ record { frames = fs; answer = Ok None }
unfolding rest_reading frame_lines
rest_back [] k g = refl
rest_back (f ∷ fs) k (g, gs) =
    let s = (good_seven f g).0 in
    let p = frame_back f s in
    rw (frame_line_first f (frame_lines fs) s, good_taken f g, p.1, drop_at (frame_line f) (frame_lines fs) 17 p.2, rest_back fs (suc k) gs) refl

-- a frame's line and what follows it are the text
pub taken_front : (t : List ℕ) → is_frame_line (line_of t) ≡ true → frame_line (frame_of (line_of t)) ++ drop 17 t ≡ t
taken_front t e = ap (λ (l : List ℕ). l ++ drop 17 t) (sym (line_back (line_of t) e).1 ∙ (frame_is t e).1) ∙ take-append-drop 17 t

-- a rest read to its end is the lines of the good frames handed on
pub rest_only : (j : ℕ) (t : List ℕ) (k : ℕ) → (rest_reading j t k).answer ≡ Ok None
    → let fs = (rest_reading j t k).frames in (length fs ≡ j) × Every Good fs × (frame_lines fs ≡ t)
unfolding rest_reading frame_lines
rest_only zero [] k e = (refl, tt, refl)
rest_only zero (c ∷ cs) k e = absurd cc
rest_only (suc j) t k e = go (line_refusal l) (judged l) (rest_only j (drop 17 t) (suc k)) e
  where
    l : List ℕ
    l = line_of t

    more : Reading
    more = rest_reading j (drop 17 t) (suc k)

    go : (r : Option Refusal) → Judged l r → (more.answer ≡ Ok None → (length more.frames ≡ j) × Every Good more.frames × (frame_lines more.frames ≡ drop 17 t))
        → (handed r (k + 4) (frame_of l) more).answer ≡ Ok None
        → let fs = (handed r (k + 4) (frame_of l) more).frames in (length fs ≡ suc j) × Every Good fs × (frame_lines fs ≡ t)
    go None (Judged.formless z f) h e = absurd cc
    go None (Judged.padded z f p) h e = absurd cc
    go None (Judged.taken z f g) h e =
        let p = h e in
        (ap suc p.0, (g, p.1), ap (λ (r : List ℕ). frame_line (frame_of l) ++ r) p.2 ∙ taken_front t f)
    go (Some r) d h e = absurd cc
