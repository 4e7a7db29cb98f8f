-- Document 01, "Program hear": what is printed for the bytes of a call.
use Rattle.std.specs.Prelude.{ℕ, zero, suc, ◌+◌, ◌*◌, ◌%◌, ◌≡◌, List, ◌++◌, length, take, drop, Result, Ok, Err}
use Rattle.std.specs.declared.option.Option.{Option}
use Rattle.std.specs.Io.KnownBytes.{Appends}
use Rattle.bits.specs.Lists.{ReadFrom}
use Rattle.console.specs.Fronts.{AppendsFront}
use Rattle.refusal.specs.Refusals.{number_of, numbered}
use Rattle.refusal.specs.declared.Refusal.{Refusal}
use Rattle.order.specs.Order.{default_order}
use Rattle.receiver.specs.declared.Kind.{Kind}
use Rattle.receiver.specs.declared.Kind.TheVariants.{Unvoiced, Voiced, Repeat}
use Rattle.receiver.specs.declared.FrameResult.{FrameResult}
use Rattle.receiver.specs.Frames.{frames_in, answer_at}
use Rattle.report.specs.Lines.{first_line, frame_line, last_line}

-- the bytes after the last whole frame
abbrev pub left_in : List ℕ → ℕ
left_in bytes = length bytes % 7

-- 1 for a frame of kind R
abbrev pub repeat_kind : Kind → ℕ
repeat_kind Unvoiced = 0
repeat_kind Voiced = 0
repeat_kind Repeat = 1

abbrev pub repeat_of : Result FrameResult Refusal → ℕ
repeat_of (Ok r) = repeat_kind r.kind
repeat_of (Err f) = 0

-- the first line and those of the first k frames
unfoldable pub text_before : List ℕ → ℕ → List ℕ
text_before bytes zero = first_line
text_before bytes (suc k) = text_before bytes k ++ frame_line k (numbered number_of (answer_at default_order bytes k))

-- how many of the first k frames are of kind R
unfoldable pub repeats_before : List ℕ → ℕ → ℕ
repeats_before bytes zero = 0
repeats_before bytes (suc k) = repeats_before bytes k + repeat_of (answer_at default_order bytes k)

-- all that is printed
unfoldable pub text : List ℕ → List ℕ
text bytes = text_before bytes (frames_in bytes) ++ last_line (frames_in bytes) (repeats_before bytes (frames_in bytes)) (left_in bytes)

-- what is heard of all of standard input: at most 9,362 frames; bytes past the 65,534 of those are neither read nor counted
abbrev pub most_bytes : ℕ
most_bytes = 7 * 9362

abbrev pub heard : List ℕ → List ℕ
heard input = take most_bytes input

-- what is printed for it
abbrev pub printed : List ℕ → List ℕ
printed input = text (heard input)

-- as many bytes as are printed, for every input from which a buffer and the count of its bytes were read
abbrev pub AllPrinted : List ℕ → ℕ → ℕ → Type 0
AllPrinted buffer size count = (input : List ℕ) → ReadFrom buffer size input → count ≡ length (printed input)

-- a writer that tells what it holds, as `before` and then as `after`, was given all that is printed, for every such input
abbrev pub AllSent : List ℕ → ℕ → Option (List ℕ) → Option (List ℕ) → Type 0
AllSent buffer size before after = (input : List ℕ) → ReadFrom buffer size input → Appends before after (printed input)

-- where it ends in an error, that writer was given a front of it, for every such input
abbrev pub FrontSent : List ℕ → ℕ → Option (List ℕ) → Option (List ℕ) → Type 0
FrontSent buffer size before after = (input : List ℕ) → ReadFrom buffer size input → AppendsFront before after (printed input)

-- a helper of the code: a writer that was given the first m bytes of a text, and nothing else, then was given the first n
abbrev pub GivenOn : List ℕ → ℕ → ℕ → Option (List ℕ) → Option (List ℕ) → Type 0
GivenOn whole m n before after = (start : Option (List ℕ)) → Appends start before (take m whole) → Appends start after (take n whole)

-- a helper of the code: a writer that was given the first m bytes of a text, and nothing else, then was given a front of it
abbrev pub GivenFront : List ℕ → ℕ → Option (List ℕ) → Option (List ℕ) → Type 0
GivenFront whole m before after = (start : Option (List ℕ)) → Appends start before (take m whole) → AppendsFront start after whole

-- a helper of the code: of the text so far, `sent` bytes have gone out and the others wait at the front of a buffer, up to `end`
abbrev pub Pending : List ℕ → ℕ → ℕ → List ℕ → Type 0
Pending so_far sent end out = (sent + end ≡ length so_far) × (take end out ≡ drop sent so_far)
