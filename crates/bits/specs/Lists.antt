-- Tests of numbers, claims about lists, and what a lent list holds after a call or a read. Helpers of every section of document 01.
use Rattle.std.specs.Prelude.{ℕ, zero, suc, ◌≡◌, Bool, true, ◌&&◌, List, [], ◌∷◌, ◌++◌, length, take, drop, Option, None, Some}

-- a test at every number below n
abbrev pub every : ℕ → (ℕ → Bool) → Bool
every zero f = true
every (suc n) f = f n && every n f

-- a claim about every element
abbrev pub Every : {A : Type 0} → (A → Type 0) → List A → Type 0
Every P [] = Unit
Every P (x ∷ xs) = P x × Every P xs

-- a claim about every two neighbours
abbrev pub Successive : {A : Type 0} → (A → A → Type 0) → List A → Type 0
Successive P [] = Unit
Successive P (x ∷ []) = Unit
Successive P (x ∷ y ∷ ys) = P x y × Successive P (y ∷ ys)

-- what a lent output holds afterwards, by the refusal of the call: n new values in front and all past them kept; after a refusal all kept
abbrev pub written_unless : {A E : Type 0} → Option E → ℕ → List A → List A → List A
written_unless None n front out = front ++ drop n out
written_unless (Some f) n front out = out

-- what a read of an input leaves in a lent buffer: its first n bytes are the whole input, or as much of it as the buffer takes
abbrev pub ReadFrom : List ℕ → ℕ → List ℕ → Type 0
ReadFrom buffer n whole = take n buffer ≡ take (length buffer) whole
