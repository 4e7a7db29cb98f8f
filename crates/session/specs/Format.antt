-- Document 02, T-01: the text of a session file. Lines ended by one LF: `file=melp`, `order=house`, `frames=N`, then a line for each of the N frames.
use Rattle.std.specs.Prelude.{ℕ, ◌+◌, ◌/◌, ◌%◌, cond, List, [], ◌∷◌, ◌++◌, ltb, length}
use Rattle.bits.specs.Ascii.{digit_byte}
use Rattle.text.specs.Text.{ascii, decimal}

-- the first two lines
abbrev pub file_line : List ℕ
file_line = ascii "file=melp\n"

abbrev pub order_line : List ℕ
order_line = ascii "order=house\n"

-- the third line: how many frames there are, without leading zeros
unfoldable pub count_line : ℕ → List ℕ
count_line n = ascii "frames=" ++ (decimal n ++ ascii "\n")

-- a lower-case hexadecimal digit: 97 is `a`
abbrev pub hex_digit : ℕ → ℕ
hex_digit d = cond (ltb d 10) (digit_byte d) (87 + d)

-- a byte in two digits
abbrev pub hex_pair : ℕ → List ℕ
hex_pair b = hex_digit (b / 16) ∷ hex_digit (b % 16) ∷ []

-- bytes, one after the other
unfoldable pub hex_text : List ℕ → List ℕ
hex_text [] = []
hex_text (b ∷ bs) = hex_pair b ++ hex_text bs

-- the line of a frame: of its seven bytes 14 digits
unfoldable pub frame_line : List ℕ → List ℕ
frame_line frame = ascii "f=" ++ (hex_text frame ++ ascii "\n")

-- the lines of frames, one after the other
unfoldable pub frame_lines : List (List ℕ) → List ℕ
frame_lines [] = []
frame_lines (f ∷ fs) = frame_line f ++ frame_lines fs

-- the three lines before them
unfoldable pub header : ℕ → List ℕ
header n = file_line ++ (order_line ++ count_line n)

-- the text of a list of frames
unfoldable pub session_text : List (List ℕ) → List ℕ
session_text fs = header (length fs) ++ frame_lines fs

-- the most frames of a file, and how many bytes such a file has: the three lines 34, and each frame's 17
abbrev pub most_frames : ℕ
most_frames = 2000

abbrev pub most_text : ℕ
most_text = 34034
