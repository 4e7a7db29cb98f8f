-- The text form of a codebook (document 01, "LSF and magnitude values"): what a reader takes, and what a call answers and leaves. The form is
-- document 01's; the numbers are those of MIL-STD-3005, tables IV to VII (5.3.4) or table VIII (5.3.5).
-- Bytes are numbers; 10 ends a line, 45 is the minus, 48 to 57 are the digits.
use Rattle.std.specs.Prelude.{ℕ, zero, suc, ◌+◌, ◌-◌, ◌*◌, ◌≡◌, Bool, true, false, not, ◌&&◌, ◌||◌, cond, List, [], ◌∷◌, leb, eqb, length, drop, ℤ, pos, neg_ℤ, Option, Result}
use Rattle.bits.specs.Lists.{written_unless}
use Rattle.refusal.specs.Refusals.{Table, first_refusal, unless}
use Rattle.refusal.specs.declared.Refusal.{Refusal}
use Rattle.refusal.specs.declared.Refusal.TheVariants.{InvalidCodebook}

-- the bytes before the first line end, all where there is none
unfoldable pub line_of : List ℕ → List ℕ
line_of [] = []
line_of (c ∷ cs) = cond (eqb c 10) [] (c ∷ line_of cs)

-- whether there is a line end
unfoldable pub is_ended : List ℕ → Bool
is_ended [] = false
is_ended (c ∷ cs) = eqb c 10 || is_ended cs

-- the bytes after the first line end
unfoldable pub after_line : List ℕ → List ℕ
after_line [] = []
after_line (c ∷ cs) = cond (eqb c 10) cs (after_line cs)

-- a line that starts with a minus
unfoldable pub is_negative : List ℕ → Bool
is_negative [] = false
is_negative (c ∷ cs) = eqb c 45

-- what follows the minus, all where there is none
unfoldable pub unsigned : List ℕ → List ℕ
unsigned line = drop (cond (is_negative line) 1 0) line

-- one digit
abbrev pub is_digit : ℕ → Bool
is_digit c = leb 48 c && leb c 57

-- nothing but digits
unfoldable pub all_digits : List ℕ → Bool
all_digits [] = true
all_digits (c ∷ cs) = is_digit c && all_digits cs

-- one to ten digits; zeros in front are among them
unfoldable pub is_digits : List ℕ → Bool
is_digits cs = leb 1 (length cs) && leb (length cs) 10 && all_digits cs

-- the value of digits that follow those of value v, the most significant first
unfoldable pub value_after : ℕ → List ℕ → ℕ
value_after v [] = v
value_after v (c ∷ cs) = value_after (10 * v + (c - 48)) cs

-- the value of digits
abbrev pub digits_value : List ℕ → ℕ
digits_value cs = value_after 0 cs

-- a good line: a minus or none, then one to ten digits, and no minus before a value of 0
unfoldable pub is_number : List ℕ → Bool
is_number line = is_digits (unsigned line) && not (is_negative line && eqb (digits_value (unsigned line)) 0)

-- a size with its sign
abbrev pub with_sign : Bool → ℕ → ℤ
with_sign true n = neg_ℤ (pos n)
with_sign false n = pos n

-- the number that a good line writes
unfoldable pub number_of : List ℕ → ℤ
number_of line = with_sign (is_negative line) (digits_value (unsigned line))

-- nothing left
abbrev pub is_empty : List ℕ → Bool
is_empty [] = true
is_empty (c ∷ cs) = false

-- a text of n good lines, each ended by one LF, and nothing more
unfoldable pub is_lines : ℕ → List ℕ → Bool
is_lines zero text = is_empty text
is_lines (suc n) text = is_ended text && is_number (line_of text) && is_lines n (after_line text)

-- the numbers of such a text, in order
unfoldable pub numbers : ℕ → List ℕ → List ℤ
numbers zero text = []
numbers (suc n) text = number_of (line_of text) ∷ numbers n (after_line text)

-- a text of n lines that is read as these numbers
abbrev pub Reads : ℕ → List ℕ → List ℤ → Type 0
Reads n text vs = (is_lines n text ≡ true) × (numbers n text ≡ vs)

-- what refuses a text for a codebook of that size ("Refusals by place"): 6, a buffer of another size; 6, a text that is not as many good lines
abbrev pub text_table : ℕ → List ℕ → ℕ → Table
text_table size text room = (not (eqb room size), InvalidCodebook) ∷ (not (is_lines size text), InvalidCodebook) ∷ []

-- the refusal
unfoldable pub text_refusal : ℕ → List ℕ → ℕ → Option Refusal
text_refusal size text room = first_refusal (text_table size text room)

-- the answer to a call with a buffer of `room` numbers
unfoldable pub text_answer : ℕ → List ℕ → ℕ → Result Unit Refusal
text_answer size text room = unless (text_refusal size text room) tt

-- the buffer afterwards: the numbers of the text, and after a refusal all it held
unfoldable pub text_writes : ℕ → List ℕ → List ℤ → List ℤ
text_writes size text held = written_unless (text_refusal size text (length held)) size (numbers size text) held
