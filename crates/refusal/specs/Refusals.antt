-- Document 01, "Refusals by place", with the rows of document 02: of the refusals that apply the first in the table's order is returned, alone.
use Rattle.std.specs.Prelude.{ℕ, Bool, cond, List, [], ◌∷◌, Option, None, Some, Result, Ok, Err}
use Rattle.refusal.specs.declared.Refusal.{Refusal}
use Rattle.refusal.specs.declared.Refusal.TheVariants.{ShortOutput, FrameLength, PaddingBits, InvalidRecord, OutOfRange, InvalidCodebook, EntryOutOfRange, BadLine, ConfidenceCount, InvalidOrder}

-- the number of each
abbrev pub number_of : Refusal → ℕ
number_of ShortOutput = 1
number_of FrameLength = 2
number_of PaddingBits = 3
number_of InvalidRecord = 4
number_of OutOfRange = 5
number_of InvalidCodebook = 6
number_of EntryOutOfRange = 7
number_of BadLine = 8
number_of ConfidenceCount = 9
number_of InvalidOrder = 10

-- a call's part of the table, in its order: each condition with what it refuses
abbrev pub Table : Type 0
Table = List (Bool × Refusal)

-- the first whose condition holds
abbrev pub first_refusal : Table → Option Refusal
first_refusal [] = None
first_refusal (row ∷ rows) = cond row.0 (Some row.1) (first_refusal rows)

-- the answer of a call: its value, or what refuses it alone
abbrev pub unless : {A : Type 0} → Option Refusal → A → Result A Refusal
unless None x = Ok x
unless (Some f) x = Err f

-- an answer with a number in place of what refused it
abbrev pub numbered : {A E : Type 0} → (E → ℕ) → Result A E → Result A ℕ
numbered number (Ok x) = Ok x
numbered number (Err f) = Err (number f)
