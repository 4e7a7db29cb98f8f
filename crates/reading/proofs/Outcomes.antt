-- An unvoiced frame whose four words are all read: the bounds of their data and counts, and what it is read as.
-- Assumes nothing.
use Prim.Native.Nat.{ℕ, ◌+◌, ◌≤◌, ◌<◌}
use Rattle.std.specs.Prelude.{Option}
use Rattle.hamming.specs.Word.{Bounded}
use Rattle.hamming.specs.declared.Word.{Word}

-- the outcomes of the four words fit them
abbrev pub Outcomes : Option Word → Option Word → Option Word → Option Word → Type 0
Outcomes a b c d = Bounded 8 a × Bounded 6 b × Bounded 7 c × Bounded 7 d

-- the data fit their words, and no more bits are repaired than the words have
abbrev pub Bounds : (ua ub uc ud i j k l : ℕ) → Type 0
Bounds ua ub uc ud i j k l = ((ua < 16) × (ub < 8) × (uc < 16) × (ud < 16)) × (i + j + k + l ≤ 28)
