-- Bits: lists of Bool, most significant first; sums modulo 2; numbers to bits and back. Helpers of every section of document 01.
use Rattle.std.specs.Prelude.{ℕ, zero, suc, ◌+◌, ◌*◌, ◌/◌, ◌%◌, ◌^◌, Bool, true, false, not, ◌&&◌, List, [], ◌∷◌, eqb, length, get_or}
use Rattle.std.specs.Bool.{beq}

infixl 60 ◌⊻◌
infixl 60 ◌⊕◌
-- the sum of two bits modulo 2
abbrev pub ◌⊻◌ : Bool → Bool → Bool
b ⊻ true = not b
b ⊻ false = b

-- the same bit by bit; past the end of the second list the first stays
abbrev pub ◌⊕◌ : List Bool → List Bool → List Bool
[] ⊕ es = []
(b ∷ bs) ⊕ [] = b ∷ bs
(b ∷ bs) ⊕ (e ∷ es) = (b ⊻ e) ∷ (bs ⊕ es)

-- a bit as a number
abbrev pub bit_num : Bool → ℕ
bit_num true = 1
bit_num false = 0

-- one more where the bit is set
abbrev pub add_one : Bool → ℕ → ℕ
add_one true n = suc n
add_one false n = n

-- how many bits are set
abbrev pub ones : List Bool → ℕ
ones [] = zero
ones (b ∷ bs) = add_one b (ones bs)

-- the number that bits stand for, most significant first
abbrev pub value : List Bool → ℕ
value [] = 0
value (b ∷ bs) = bit_num b * 2 ^ length bs + value bs

-- bit k of a number; bit 0 is the least significant
abbrev pub bit : ℕ → ℕ → Bool
bit k n = eqb (n / 2 ^ k % 2) 1

-- the k lowest bits of a number, most significant first
abbrev pub bits : ℕ → ℕ → List Bool
bits zero n = []
bits (suc k) n = bit k n ∷ bits k n

-- whether two lists of bits are the same
abbrev pub same : List Bool → List Bool → Bool
same [] [] = true
same [] (b ∷ ys) = false
same (a ∷ xs) [] = false
same (a ∷ xs) (b ∷ ys) = beq a b && same xs ys

-- the n values of a sequence from place i on
abbrev pub cut : {A : Type 0} → (ℕ → A) → ℕ → ℕ → List A
cut g i zero = []
cut g i (suc n) = g i ∷ cut g (suc i) n

-- the n low bits of a number as a sequence, the most significant first: how code carries a frame's bits in one number
abbrev pub carried : ℕ → ℕ → ℕ → Bool
carried n number j = get_or (bits n number) j false
