-- A text put into a lent buffer from `at` on. A buffer that ends before the text does is refused with 1, document 01's number for an output
-- that is too short; everything past the text, and before it, stays as it was.
use Rattle.std.specs.Prelude.{ℕ, ◌+◌, ◌≤◌, ◌≡◌, Bool, List, [], ◌∷◌, ◌++◌, ltb, min, length, take, drop, Option, None, Some, Result, Ok, Err}
use Rattle.refusal.specs.Refusals.{first_refusal, unless}
use Rattle.refusal.specs.declared.Refusal.{Refusal}
use Rattle.refusal.specs.declared.Refusal.TheVariants.{ShortOutput}

-- whether a buffer of so many bytes is too short
abbrev pub too_short : List ℕ → ℕ → ℕ → Bool
too_short text at size = ltb size (at + length text)

-- the refusals of a call that puts a text into a buffer
abbrev pub place_refusal : List ℕ → ℕ → ℕ → Option Refusal
place_refusal text at size = first_refusal ((too_short text at size, ShortOutput) ∷ [])

-- where the text ends, or the refusal
unfoldable pub place_answer : List ℕ → ℕ → ℕ → Result ℕ Refusal
place_answer text at size = unless (place_refusal text at size) (at + length text)

-- a buffer with the text in it
abbrev pub written : List ℕ → ℕ → List ℕ → List ℕ
written text at out = take at out ++ text ++ drop (at + length text) out

-- the buffer afterwards
abbrev pub writes_unless : Option Refusal → List ℕ → ℕ → List ℕ → List ℕ
writes_unless None text at out = written text at out
writes_unless (Some f) text at out = out

unfoldable pub place_writes : List ℕ → ℕ → List ℕ → List ℕ
place_writes text at out = writes_unless (place_refusal text at (length out)) text at out

-- where a text ends after the answer to a call for a line
abbrev pub end_of : {E : Type 0} → Result ℕ E → ℕ → ℕ
end_of (Ok end) at = end
end_of (Err f) at = at

-- how many bytes of a name are written: it has no more than 16
abbrev pub within : ℕ → ℕ
within width = min width 16

-- a helper of code: bytes put after the first `at` of a buffer, which stay, and where they end
abbrev pub Appended : List ℕ → ℕ → List ℕ → List ℕ → ℕ → Type 0
Appended before at bytes after end = (end ≡ at + length bytes) × (take end after ≡ take at before ++ bytes)

-- helpers of code too: a text put into a buffer, and where it ends; and the same where there is room for it
abbrev pub Put : List ℕ → ℕ → List ℕ → List ℕ → ℕ → Type 0
Put before at text after end = (end ≡ at + length text) × (after ≡ written text at before)

abbrev pub PutIfRoom : List ℕ → ℕ → List ℕ → List ℕ → ℕ → Type 0
PutIfRoom before at text after end = at + length text ≤ length before → Put before at text after end
