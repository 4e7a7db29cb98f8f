-- What is read of lines, by the answer of a call: for those who know the calls by their answers. Assumes nothing.
use mathlib.Core.Path.{◌≡◌, refl, sym, ap, ◌∙◌}
use mathlib.Core.Bool.{Bool, true, false, not}
use mathlib.Core.List.{List, [], ◌∷◌}
use Prim.Native.Nat.{ℕ}
use Rattle.std.specs.Prelude.{Option, None, Some, Ok, Err}
use Rattle.refusal.specs.Refusals.{first_refusal, unless}
use Rattle.refusal.specs.declared.Refusal.{Refusal}
use Rattle.refusal.specs.declared.Refusal.TheVariants.{PaddingBits, BadLine}
use Rattle.session.specs.Writing.{is_padded}
use Rattle.session_lines.specs.Lines.{is_frame_line, frame_of, line_refusal, frame_read}
use Rattle.session_lines.specs.Headers.{bad_header_line, frames_in, first_place, told_unless, header_of}
use Rattle.session_lines.specs.declared.header.Header.{Header}
use Rattle.session_lines.specs.declared.header.LineRefusal.{LineRefusal}

module _ (text : List ℕ) where
  -- three lines that are refused: the first bad one is told
  pub header_refused : (r : LineRefusal) → header_of text ≡ Err r → (bad_header_line text ≡ Some r.line) × (r ≡ record { refusal = BadLine; line = r.line })
  unfolding header_of
  header_refused r e = go (bad_header_line text) e
    where
      go : (b : Option ℕ) → told_unless b text ≡ Err r → (b ≡ Some r.line) × (r ≡ record { refusal = BadLine; line = r.line })
      go None f = absurd cc
      go (Some line) f = let e : record { refusal = BadLine; line = line } ≡ r = cc in (ap (λ (x : LineRefusal). Some x.line) e, sym e ∙ ap (λ (x : LineRefusal). record { refusal = BadLine; line = x.line }) e)

  -- three good ones: how many frames there are, and where the first one's line starts
  pub header_taken : (h : Header) → header_of text ≡ Ok h → (bad_header_line text ≡ None) × ((h.frames ≡ frames_in text) × (h.first ≡ first_place text))
  unfolding header_of
  header_taken h e = go (bad_header_line text) e
    where
      go : (b : Option ℕ) → told_unless b text ≡ Ok h → (b ≡ None) × ((h.frames ≡ frames_in text) × (h.first ≡ first_place text))
      go None f = (refl, (cc, cc))
      go (Some line) f = absurd cc

module _ (line : List ℕ) where
  -- a line that is refused
  pub line_refused : (f : Refusal) → frame_read line ≡ Err f → line_refusal line ≡ Some f
  unfolding frame_read
  line_refused f e = go (line_refusal line) e
    where
      go : (n : Option Refusal) → unless n (frame_of line) ≡ Err f → n ≡ Some f
      go None h = absurd cc
      go (Some g) h = cc

  -- where none is, the frame in it
  pub line_taken : (frame : List ℕ) → frame_read line ≡ Ok frame → (line_refusal line ≡ None) × (frame ≡ frame_of line)
  unfolding frame_read
  line_taken frame e = go (line_refusal line) e
    where
      go : (n : Option Refusal) → unless n (frame_of line) ≡ Ok frame → (n ≡ None) × (frame ≡ frame_of line)
      go None h = (refl, cc)
      go (Some g) h = absurd cc

  -- and it is one
  pub line_good : line_refusal line ≡ None → is_frame_line line ≡ true
  line_good e = go (is_frame_line line) e
    where
      go : (b : Bool) → first_refusal ((not b, BadLine) ∷ (is_padded (frame_of line), PaddingBits) ∷ []) ≡ None → b ≡ true
      go true z = refl
      go false z = absurd cc
