-- Document 02, T-01: a whole list of calls of a reader, of which only their contracts are known. Proved in the law file of this name.
use Rattle.std.specs.Prelude.{ℕ, zero, suc, ◌≡◌, List, [], ◌∷◌, map, length, Some, Ok}
use Rattle.session_reader.specs.Steps.{Answer}
use Rattle.session_reader.specs.Readers.{handed}
use Rattle.session_claims.specs.Reading.{reading}
use Rattle.session_reader.specs.declared.reader.Reader.{Reader}
use Rattle.session_reader.specs.declared.reader.Handed.{Handed}

-- calls of `Reader::next`, each on the reader that the one before it handed back; the equation is the contract's (`session_reader:Says.next_says`)
abbrev pub NextCalls : Reader → List Handed → Type 0
NextCalls r [] = Unit
NextCalls r (h ∷ hs) = (h ≡ handed r) × NextCalls h.rest hs

-- what is observed of a call: the answer, with the frame where it hands on one
abbrev pub observed : Handed → Answer
observed h = h.step.answer

-- what n calls show of a reading: its frames one by one, then its answer again and again
abbrev pub shown : ℕ → List (List ℕ) → Answer → List Answer
shown zero fs answer = []
shown (suc n) [] answer = answer ∷ shown n [] answer
shown (suc n) (f ∷ fs) answer = Ok (Some f) ∷ shown n fs answer

-- any list of calls of a reader from the start of a text, where `Reader::new` puts it, observes the reading of that text
abbrev pub CallsRead : Type 0
CallsRead = (r : Reader) (hs : List Handed) → r.at ≡ 0 → NextCalls r hs
    → let whole = reading r.text.now in map observed hs ≡ shown (length hs) whole.frames whole.answer
