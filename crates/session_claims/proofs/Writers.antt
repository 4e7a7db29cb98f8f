-- The writer and the reader: bytes that the writer takes are good frames, and it takes those of good frames. Assumes nothing.
use mathlib.Core.Path.{◌≡◌, refl, ap, ◌∙◌}
use mathlib.Core.Bool.{Bool, true, false, not, ◌||◌, true≢false}
use mathlib.Core.List.{List, [], ◌∷◌, ◌++◌}
use Prim.Native.Nat.{ℕ, ◌/◌, ◌%◌, ◌≤◌, ◌<◌}
use native.Mathlib.Omega.{arith}
use lib.Dec.{ltb}
use lib.ListN.{length, take, drop}
use lib.Seq.{take-append_seam}
use borrow.Author.Tests.{le-ltb, le-leb, eq-eqb}
use Rattle.bits.specs.Lists.{Every, written_unless}
use Rattle.std.specs.Prelude.{Option, None, Ok}
use Rattle.refusal.specs.Refusals.{first_refusal}
use Rattle.refusal.specs.declared.Refusal.{Refusal}
use Rattle.refusal.specs.declared.Refusal.TheVariants.{ShortOutput, FrameLength, PaddingBits}
use Rattle.session.specs.Format.{session_text, most_frames}
use Rattle.session.specs.Writing.{frames_of, joined, is_whole, is_padded, any_padded, text_of, write_refusal, write_answer, write_writes}
use Rattle.session.proofs.Elements.{every_weaker}
use Rattle.session.proofs.Frames.{whole_parts, frames_length, frames_seven, frames_joined, joined_frames}
use Rattle.session.proofs.Padding.{good_is, good_only}
use Rattle.session_claims.specs.Reading.{reading}
use Rattle.session_lines.specs.Lines.{Seven}
use Rattle.session_claims.specs.Claims.{Good}
use Rattle.session_claims.proofs.Roundtrips.{text_back, text_only}

-- frames of seven bytes without padding bits are good
frames_good : (fs : List (List ℕ)) → Every Seven fs → any_padded fs ≡ false → Every Good fs
frames_good [] s e = tt
frames_good (f ∷ fs) (s, ss) e = go (is_padded f) refl (frames_good fs ss) e
  where
    go : (b : Bool) → is_padded f ≡ b → (any_padded fs ≡ false → Every Good fs) → b || any_padded fs ≡ false → Every Good (f ∷ fs)
    go true p more e = absurd (true≢false e)
    go false p more e = ((good_is f s.0 p, s.1), more e)

-- good frames have none
good_frames : (fs : List (List ℕ)) → Every Good fs → any_padded fs ≡ false
good_frames [] g = refl
good_frames (f ∷ fs) (g, gs) = rw (good_only f g.0).1 (good_frames fs gs)

-- what the writer takes: 0 to 2,000 whole frames without padding bits
writer_takes : (bytes : List ℕ) (room : ℕ) → write_refusal bytes room ≡ None → (is_whole bytes ≡ true) × (any_padded (frames_of bytes) ≡ false)
writer_takes bytes room e = go (is_whole bytes) (ltb room (length (text_of bytes))) (any_padded (frames_of bytes)) refl refl e
  where
    go : (a b c : Bool) → is_whole bytes ≡ a → any_padded (frames_of bytes) ≡ c → first_refusal ((not a, FrameLength) ∷ (b, ShortOutput) ∷ (c, PaddingBits) ∷ []) ≡ None
        → (is_whole bytes ≡ true) × (any_padded (frames_of bytes) ≡ false)
    go false b c w p z = absurd cc
    go true true c w p z = absurd cc
    go true false true w p z = absurd cc
    go true false false w p z = (w, p)

-- what the writer wrote is read back as the frames that it was lent
pub written_back : (bytes out : List ℕ) → Every (λ b. b < 256) bytes → write_refusal bytes (length out) ≡ None
    → (reading (take (length (text_of bytes)) (write_writes bytes out)) ≡ record { frames = frames_of bytes; answer = Ok None }) × (joined (frames_of bytes) ≡ bytes)
unfolding write_writes
written_back bytes out small e =
    let text = text_of bytes in
    let p = writer_takes bytes (length out) e in
    let w = whole_parts bytes p.0 in
    let front : take (length text) (write_writes bytes out) ≡ text =
    ap (λ (r : Option Refusal). take (length text) (written_unless r (length text) text out)) e ∙ take-append_seam text (drop (length text) out) in
    let good = frames_good (frames_of bytes) (frames_seven bytes small) p.1 in
    (ap reading front ∙ text_back (frames_of bytes) (omega (arith, frames_length bytes, w.1)) good, frames_joined bytes w.0)

-- good frames joined are taken, and written as their text
joined_written : (fs : List (List ℕ)) (out : List ℕ) → length fs ≤ most_frames → Every Good fs → length (session_text fs) ≤ length out
    → (write_answer (joined fs) (length out) ≡ Ok (length (session_text fs)))
    × (write_writes (joined fs) out ≡ session_text fs ++ drop (length (session_text fs)) out)
unfolding write_answer write_writes
joined_written fs out h g room =
    let j = joined_frames fs (every_weaker Good (λ f. length f ≡ 7) (λ f x. (good_only f x.0).0) fs g) in
    let whole = eq-eqb (length (joined fs) % 7) 0 (omega (arith, j.1)) in
    let few = le-leb (length (joined fs) / 7) most_frames (omega (arith, j.1)) in
    rw (j.0, whole, few, le-ltb (length out) (length (session_text fs)) room, good_frames fs g) (refl, refl)

-- a text read to its end comes out of the writer with the same bytes
pub rewritten_back : (text out : List ℕ) → (reading text).answer ≡ Ok None → length text ≤ length out
    → (write_answer (joined (reading text).frames) (length out) ≡ Ok (length text))
    × (write_writes (joined (reading text).frames) out ≡ text ++ drop (length text) out)
rewritten_back text out e room =
    let p = text_only text e in
    rw p.2 at (joined_written (reading text).frames out p.0 p.1 (rw p.2 room))
