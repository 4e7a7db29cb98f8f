-- Document 02, T-01: the lines of a text, and which of them belong in a session file. Each is judged with its end.
use Rattle.std.specs.Prelude.{ℕ, ◌+◌, ◌-◌, ◌*◌, ◌<◌, ◌≡◌, Bool, true, false, not, ◌&&◌, ◌||◌, cond, List, [], ◌∷◌, ltb, leb, eqb, length, take, drop, Option, Result}
use Rattle.bits.specs.Lists.{Every}
use Rattle.refusal.specs.Refusals.{Table, first_refusal, unless}
use Rattle.refusal.specs.declared.Refusal.{Refusal}
use Rattle.refusal.specs.declared.Refusal.TheVariants.{PaddingBits, BadLine}
use Rattle.text.specs.Text.{ascii}
use Rattle.session.specs.Format.{count_line, most_frames}
use Rattle.session.specs.Writing.{is_padded}

-- the first line of a text with the LF that ends it; all of it where there is none
unfoldable pub line_of : List ℕ → List ℕ
line_of [] = []
line_of (c ∷ cs) = cond (eqb c 10) (c ∷ []) (c ∷ line_of cs)

-- the line that starts at an offset
abbrev pub line_at : List ℕ → ℕ → List ℕ
line_at text at = line_of (drop at text)

-- whether two lines are the same
abbrev pub same_bytes : List ℕ → List ℕ → Bool
same_bytes [] [] = true
same_bytes [] (y ∷ ys) = false
same_bytes (x ∷ xs) [] = false
same_bytes (x ∷ xs) (y ∷ ys) = eqb x y && same_bytes xs ys

-- a decimal digit
abbrev pub is_digit : ℕ → Bool
is_digit c = leb 48 c && leb c 57

-- the number that the digits in front of a text write, after those of value v
unfoldable pub digits_value : ℕ → List ℕ → ℕ
digits_value v [] = v
digits_value v (c ∷ cs) = cond (is_digit c) (digits_value (10 * v + (c - 48)) cs) v

-- the number in the third line, of at most four digits: `frames=` has seven bytes
abbrev pub count_of : List ℕ → ℕ
count_of line = digits_value 0 (take 4 (drop 7 line))

-- a third line: the one for its number, which is at most 2,000
unfoldable pub is_count_line : List ℕ → Bool
is_count_line line = leb (count_of line) most_frames && same_bytes line (count_line (count_of line))

-- a lower-case hexadecimal digit: `0` to `9`, or `a` to `f`
abbrev pub is_hex : ℕ → Bool
is_hex c = is_digit c || (leb 97 c && leb c 102)

-- its value
abbrev pub hex_value : ℕ → ℕ
hex_value c = cond (ltb c 97) (c - 48) (c - 87)

-- nothing but such digits
unfoldable pub all_hex : List ℕ → Bool
all_hex [] = true
all_hex (c ∷ cs) = is_hex c && all_hex cs

-- the bytes of pairs of digits
unfoldable pub hex_bytes : List ℕ → List ℕ
hex_bytes [] = []
hex_bytes (c ∷ []) = []
hex_bytes (c ∷ d ∷ cs) = (16 * hex_value c + hex_value d) ∷ hex_bytes cs

-- a frame's line: `f=`, 14 digits, and the line end
unfoldable pub is_frame_line : List ℕ → Bool
is_frame_line line = same_bytes (take 2 line) (ascii "f=") && all_hex (take 14 (drop 2 line)) && same_bytes (drop 16 line) (ascii "\n")

-- the frame in it
unfoldable pub frame_of : List ℕ → List ℕ
frame_of line = hex_bytes (take 14 (drop 2 line))

-- seven bytes, whatever their last bits
abbrev pub Seven : List ℕ → Type 0
Seven frame = (length frame ≡ 7) × Every (λ b. b < 256) frame

-- what refuses a line where a frame's is due: it is none; its frame has padding bits
abbrev pub line_table : List ℕ → Table
line_table line = (not (is_frame_line line), BadLine) ∷ (is_padded (frame_of line), PaddingBits) ∷ []

-- the refusal
abbrev pub line_refusal : List ℕ → Option Refusal
line_refusal line = first_refusal (line_table line)

-- what is read of such a line: the frame, or the refusal
unfoldable pub frame_read : List ℕ → Result (List ℕ) Refusal
frame_read line = unless (line_refusal line) (frame_of line)
