-- Document 01, "Order of the bits", with document 02, T-07: orders, the default one (the house order), places, bytes and the channel.
-- A frame's logical bits are a sequence, of which 0 to 53 count.
use Rattle.std.specs.Prelude.{ℕ, zero, suc, ◌*◌, ◌/◌, ◌%◌, ◌<◌, ◌≡◌, Bool, false, not, cond, ◌&&◌, List, [], ◌∷◌, ◌++◌, T, eqb, ltb, length, get_or, Option}
use Rattle.bits.specs.Bits.{◌⊻◌, add_one, ones, value, bits, cut}
use Rattle.bits.specs.Lists.{every}
use Rattle.refusal.specs.Refusals.{Table, first_refusal}
use Rattle.refusal.specs.declared.Refusal.{Refusal}
use Rattle.refusal.specs.declared.Refusal.TheVariants.{FrameLength, PaddingBits, InvalidOrder}

-- how often a number stands in a list
abbrev pub times : ℕ → List ℕ → ℕ
times j [] = zero
times j (x ∷ xs) = add_one (eqb x j) (times j xs)

-- an order: 54 entries, each of the logical numbers 0 to 53 once; entry t names the bit at place t
pub record Order (ord : List ℕ) : Type 0 where
  pub size : length ord ≡ 54
  pub once : (j : ℕ) → j < 54 → times j ord ≡ 1

-- the test of it
abbrev pub is_order : List ℕ → Bool
is_order ord = eqb (length ord) 54 && every 54 (λ j. eqb (times j ord) 1)

-- what is claimed of the test: it passes for orders, and for nothing else
pub record TestsOrder (ord : List ℕ) : Type 0 where
  pub passes : Order ord → T (is_order ord)
  pub only : T (is_order ord) → Order ord

-- the place of logical bit j: where the order names it
unfoldable pub place_of : List ℕ → ℕ → ℕ
place_of [] j = zero
place_of (x ∷ xs) j = cond (eqb x j) zero (suc (place_of xs j))

-- the order in which logical bit j goes to place f j: entry t is where t stands among the 54 places
unfoldable pub order_by : (ℕ → ℕ) → List ℕ
order_by f = cut (place_of (cut f 0 54)) 0 54

-- the default order: logical bit j goes to place 7 × j modulo 54
unfoldable pub default_order : List ℕ
default_order = order_by (λ j. 7 * j % 54)

-- what stands at place t: the bit that the order names; the two places past the last are 0
abbrev pub placed : List ℕ → (ℕ → Bool) → ℕ → Bool
placed ord g t = cond (ltb t 54) (g (get_or ord t 0)) false

-- byte i of a sequence of places: place t is in byte t / 8, most significant bit first
abbrev pub byte_of : (ℕ → Bool) → ℕ → ℕ
byte_of h i = value (cut h (8 * i) 8)

-- the seven bytes of a sequence of places
abbrev pub bytes_of : (ℕ → Bool) → List ℕ
bytes_of h = cut (byte_of h) 0 7

-- the frame of logical bits in an order
unfoldable pub frame_of : List ℕ → (ℕ → Bool) → List ℕ
frame_of ord g = bytes_of (placed ord g)

-- the bit at place t of a frame
unfoldable pub bit_at : List ℕ → ℕ → Bool
bit_at bytes t = get_or (bits 8 (get_or bytes (t / 8) 0)) (t % 8) false

-- what is claimed of a frame in any order: at place t stands the bit that entry t names
abbrev pub NamedPlaces : Type 0
NamedPlaces = (ord : List ℕ) (g : ℕ → Bool) (t : ℕ) → t < 54 → bit_at (frame_of ord g) t ≡ g (get_or ord t 0)

-- logical bit j of a frame
abbrev pub logical_bit : List ℕ → List ℕ → ℕ → Bool
logical_bit ord bytes j = bit_at bytes (place_of ord j)

-- the last two bits of a frame, which are 0
abbrev pub padding : List ℕ → List Bool
padding bytes = cut (bit_at bytes) 54 2

-- what refuses a list as the order: it is none (T-07)
abbrev pub order_table : List ℕ → Table
order_table ord = (not (is_order ord), InvalidOrder) ∷ []

-- what refuses a frame in an order: it is not seven bytes; what refuses the order; one of its last two bits is set
abbrev pub frame_table : List ℕ → List ℕ → Table
frame_table ord bytes = (not (eqb (length bytes) 7), FrameLength) ∷ order_table ord ++ (not (eqb (ones (padding bytes)) 0), PaddingBits) ∷ []

-- its refusal
abbrev pub frame_refusal : List ℕ → List ℕ → Option Refusal
frame_refusal ord bytes = first_refusal (frame_table ord bytes)

-- the frame that a channel hands on: the places that fl names among 0 to 53 are changed, nothing else
unfoldable pub through : (ℕ → Bool) → List ℕ → List ℕ
through fl bytes = bytes_of (λ t. bit_at bytes t ⊻ (ltb t 54 && fl t))
