-- Document 02, T-01: what the writer of session files answers and leaves, for any bytes and any output.
use Rattle.std.specs.Prelude.{ℕ, ◌*◌, ◌/◌, ◌%◌, Bool, false, not, ◌&&◌, ◌||◌, List, [], ◌∷◌, ◌++◌, ltb, leb, eqb, length, take, drop, Option, Result}
use Rattle.bits.specs.Bits.{ones, cut}
use Rattle.bits.specs.Lists.{written_unless}
use Rattle.refusal.specs.Refusals.{Table, first_refusal, unless}
use Rattle.refusal.specs.declared.Refusal.{Refusal}
use Rattle.refusal.specs.declared.Refusal.TheVariants.{ShortOutput, FrameLength, PaddingBits}
use Rattle.order.specs.Order.{padding}
use Rattle.session.specs.Format.{session_text, most_frames}

-- frame k of bytes that are frames one after another, counted from 0
abbrev pub frame_at : List ℕ → ℕ → List ℕ
frame_at bytes k = take 7 (drop (7 * k) bytes)

-- all whole frames
unfoldable pub frames_of : List ℕ → List (List ℕ)
frames_of bytes = cut (frame_at bytes) 0 (length bytes / 7)

-- the bytes of frames, one after another
unfoldable pub joined : List (List ℕ) → List ℕ
joined [] = []
joined (f ∷ fs) = f ++ joined fs

-- 0 to 2,000 whole frames
abbrev pub is_whole : List ℕ → Bool
is_whole bytes = eqb (length bytes % 7) 0 && leb (length bytes / 7) most_frames

-- one of a frame's last two bits is set (document 01, "Order of the bits")
abbrev pub is_padded : List ℕ → Bool
is_padded frame = not (eqb (ones (padding frame)) 0)

-- some frame has such a bit
abbrev pub any_padded : List (List ℕ) → Bool
any_padded [] = false
any_padded (f ∷ fs) = is_padded f || any_padded fs

-- the text that the writer gives for these bytes
abbrev pub text_of : List ℕ → List ℕ
text_of bytes = session_text (frames_of bytes)

-- what refuses them, here 2 before 1: not 0 to 2,000 whole frames; an output shorter than the text; a frame with padding bits
abbrev pub write_table : List ℕ → ℕ → Table
write_table bytes room = (not (is_whole bytes), FrameLength) ∷ (ltb room (length (text_of bytes)), ShortOutput) ∷ (any_padded (frames_of bytes), PaddingBits) ∷ []

-- the refusal
abbrev pub write_refusal : List ℕ → ℕ → Option Refusal
write_refusal bytes room = first_refusal (write_table bytes room)

-- the answer: where the text ends, or the refusal
unfoldable pub write_answer : List ℕ → ℕ → Result ℕ Refusal
write_answer bytes room = unless (write_refusal bytes room) (length (text_of bytes))

-- the output afterwards: the text in front and all past it kept; after a refusal all kept
unfoldable pub write_writes : List ℕ → List ℕ → List ℕ
write_writes bytes out = written_unless (write_refusal bytes (length out)) (length (text_of bytes)) (text_of bytes) out
