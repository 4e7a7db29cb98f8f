-- Document 01, "Refusals by place", and document 02: the numbers of refusals, one after another.
use Rattle.std.specs.Prelude.{ℕ, ◌≡◌, map, [], ◌∷◌}
use Rattle.refusal.specs.Refusals.{number_of}
use Rattle.refusal.specs.declared.Refusal.TheVariants.{ShortOutput, FrameLength, PaddingBits, InvalidRecord, OutOfRange, InvalidCodebook, EntryOutOfRange, BadLine, ConfidenceCount, InvalidOrder}

abbrev pub Numbers : Type 0
Numbers =
    map number_of
    (ShortOutput ∷ FrameLength ∷ PaddingBits ∷ InvalidRecord ∷ OutOfRange ∷ InvalidCodebook ∷ EntryOutOfRange ∷ BadLine ∷ ConfidenceCount ∷ InvalidOrder ∷ [])
    ≡ 1 ∷ 2 ∷ 3 ∷ 4 ∷ 5 ∷ 6 ∷ 7 ∷ 8 ∷ 9 ∷ 10 ∷ []
