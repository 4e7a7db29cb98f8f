-- What a line asks for where a frame's is due: the lines of good frames are taken, and no others. Assumes nothing.
use mathlib.Core.Path.{◌≡◌, refl, ap}
use mathlib.Core.Bool.{Bool, true, false, not}
use mathlib.Core.List.{List, [], ◌∷◌}
use Prim.Native.Nat.{ℕ}
use Rattle.std.specs.Prelude.{Option, None, Some}
use Rattle.refusal.specs.Refusals.{first_refusal, number_of}
use Rattle.refusal.specs.declared.Refusal.{Refusal}
use Rattle.refusal.specs.declared.Refusal.TheVariants.{PaddingBits, BadLine}
use Rattle.session.specs.Format.{frame_line}
use Rattle.session.specs.Writing.{is_padded}
use Rattle.session.proofs.Padding.{good_is, good_only}
use Rattle.session_lines.specs.Lines.{is_frame_line, frame_of, line_refusal, Seven}
use Rattle.session_lines.specs.declared.header.LineRefusal.{LineRefusal}
use Rattle.session_reader.specs.Steps.{refused}
use Rattle.session_claims.specs.Claims.{Good}
use Rattle.session_lines.proofs.FrameLines.{line_back, frame_back}

-- a refusal has one number and one line
pub refused_only : (a f : Refusal) (b line : ℕ) → refused a b ≡ refused f line → (number_of f ≡ number_of a) × (line ≡ b)
refused_only a f b line e =
    let r : record { refusal = f; line = line } ≡ record { refusal = a; line = b } = cc in
    (ap (λ (r : LineRefusal). number_of r.refusal) r, ap (λ (r : LineRefusal). r.line) r)

-- a good frame is seven bytes without padding bits
pub good_seven : (f : List ℕ) → Good f → Seven f × (is_padded f ≡ false)
good_seven f g = let p = good_only f g.0 in ((p.0, g.1), p.1)

-- the three answers to a line, by its tests: not a frame's; of a frame with padding bits; of a good frame
pub data Judged (l : List ℕ) (f : Option Refusal) : Type 0 where
  formless : f ≡ Some BadLine → is_frame_line l ≡ false → Judged l f
  padded : f ≡ Some PaddingBits → is_frame_line l ≡ true → is_padded (frame_of l) ≡ true → Judged l f
  taken : f ≡ None → is_frame_line l ≡ true → Good (frame_of l) → Judged l f

pub judged : (l : List ℕ) → Judged l (line_refusal l)
judged l = go (is_frame_line l) (is_padded (frame_of l)) refl refl
  where
    go : (a b : Bool) → is_frame_line l ≡ a → is_padded (frame_of l) ≡ b → Judged l (first_refusal ((not a, BadLine) ∷ (b, PaddingBits) ∷ []))
    go false b e p = formless refl e
    go true true e p = padded refl e p
    go true false e p = let s = (line_back l e).0 in taken refl e (good_is (frame_of l) s.0 p, s.1)

-- the line of a good frame is taken
pub good_taken : (f : List ℕ) → Good f → line_refusal (frame_line f) ≡ None
good_taken f g =
    let s = good_seven f g in
    let p = frame_back f s.0 in
    rw (p.0, p.1, s.1) refl
