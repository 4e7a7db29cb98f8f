-- Document 01, "Order of the bits" and "Refusals by place", with document 02, T-07: the logical bits that are taken from a frame in an order, or its refusal.
use Rattle.std.specs.Prelude.{ℕ, suc, ◌-◌, ◌<◌, ◌≡◌, Bool, ◌&&◌, List, eqb, Result}
use Rattle.bits.specs.Bits.{bit, value, cut}
use Rattle.refusal.specs.Refusals.{unless}
use Rattle.refusal.specs.declared.Refusal.{Refusal}
use Rattle.order.specs.Order.{logical_bit, frame_refusal}

-- the 54 logical bits as one number, bit 0 the most significant
abbrev pub bits_number : List ℕ → List ℕ → ℕ
bits_number ord bytes = value (cut (logical_bit ord bytes) 0 54)

-- the answer: this number, or what refuses the frame
unfoldable pub bits_answer : List ℕ → List ℕ → Result ℕ Refusal
bits_answer ord bytes = unless (frame_refusal ord bytes) (bits_number ord bytes)

-- helper of the code: a number of 54 bits with a bit where logical bit j stands, and 0 at every other
abbrev pub OneNamed : ℕ → Bool → ℕ → Type 0
OneNamed j b number = (k : ℕ) → k < 54 → bit (54 - suc k) number ≡ (eqb k j && b)
