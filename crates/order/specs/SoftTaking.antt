-- Document 02, T-05: the logical bits of a frame in an order, each with the confidence of its place, from 0 to 255, or its refusal.
use Rattle.std.specs.Prelude.{ℕ, ◌<◌, ◌≡◌, not, List, [], ◌∷◌, ◌++◌, eqb, length, get_or, Result}
use Rattle.bits.specs.Bits.{cut}
use Rattle.refusal.specs.Refusals.{Table, first_refusal, unless}
use Rattle.refusal.specs.declared.Refusal.{Refusal}
use Rattle.refusal.specs.declared.Refusal.TheVariants.{ConfidenceCount}
use Rattle.order.specs.Order.{Order, place_of, frame_table}
use Rattle.order.specs.Taking.{bits_number}
use Rattle.order.specs.declared.SoftBits.{SoftBits}

-- the confidence of logical bit j: that of the place at which it stands
abbrev pub confidence_of : List ℕ → List ℕ → ℕ → ℕ
confidence_of ord confidences j = get_or confidences (place_of ord j) 0

-- what refuses confidences: there are other than 54
abbrev pub confidence_table : List ℕ → Table
confidence_table confidences = (not (eqb (length confidences) 54), ConfidenceCount) ∷ []

-- the number of the bits, and their confidences
abbrev pub taken_bits : List ℕ → List ℕ → List ℕ → SoftBits
taken_bits ord bytes confidences = record { bits = bits_number ord bytes; confidences = cut (confidence_of ord confidences) 0 54 }

-- the answer: these, or what refuses the frame, or else what refuses the confidences
unfoldable pub soft_bits : List ℕ → List ℕ → List ℕ → Result SoftBits Refusal
soft_bits ord bytes confidences = unless (first_refusal (frame_table ord bytes ++ confidence_table confidences)) (taken_bits ord bytes confidences)

-- what is claimed of confidences: in any order, the bit that stands at a place has the confidence of that place
abbrev pub PlaceConfidences : Type 0
PlaceConfidences = (ord : List ℕ) → Order ord → (confidences : List ℕ) (t : ℕ) → t < 54 → confidence_of ord confidences (get_or ord t 0) ≡ get_or confidences t 0
