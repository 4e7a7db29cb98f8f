-- How strings and numbers are spelt, in bytes of ASCII. Helpers of the texts that document 01 has printed.
use Rattle.std.specs.Prelude.{ℕ, zero, suc, ◌/◌, ◌%◌, cond, List, [], ◌∷◌, ◌++◌, ltb, ℤ, pos, negsuc, nat_abs}
use Prim.Native.Char.{code}
use Prim.Native.String.{String, [] as none, ◌∷◌ as ◌then◌}
use Rattle.bits.specs.Ascii.{digit_byte}

-- the bytes of a string
abbrev pub ascii : String → List ℕ
ascii none = []
ascii (c then s) = code c ∷ ascii s

-- the decimal digits of a number, at most k of them
unfoldable pub digits : ℕ → ℕ → List ℕ
digits zero n = []
digits (suc k) n = cond (ltb n 10) (digit_byte n ∷ []) (digits k (n / 10) ++ (digit_byte (n % 10) ∷ []))

-- a number in decimal, with no zero in front of another digit; no n has more than n + 1 digits
unfoldable pub decimal : ℕ → List ℕ
decimal n = digits (suc n) n

-- a minus before a negative number
abbrev pub sign : ℤ → List ℕ
sign (pos n) = []
sign (negsuc n) = ascii "-"

-- a whole number
abbrev pub signed : ℤ → List ℕ
signed x = sign x ++ decimal (nat_abs x)

-- a name and the text after it
abbrev pub field : String → List ℕ → List ℕ
field name text = ascii name ++ text
