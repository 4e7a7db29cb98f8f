-- Helpers of the code, no part of document 02: the cost of a code word and the number of places where it differs, in one number.
use Rattle.std.specs.Prelude.{ℕ, ◌+◌, ◌*◌, ◌/◌, ◌^◌, ◌≤◌, ◌<◌, ◌≡◌, Bool, List, [], ◌∷◌, ◌++◌, eqb, length, get_or, drop, replicate}
use Rattle.std.specs.Int.Bits.{bit_xor}
use Rattle.bits.specs.Bits.{ones, value, bits, cut}
use Rattle.hamming.specs.Word.{data_bits, parity_of}
use Rattle.soft.specs.Least.{least_by}
use Rattle.soft.specs.Choice.{code_words, weigh, differing, cost}

-- the price of one place that differs: 16 times its confidence, and 1 for the place
abbrev pub price : ℕ → ℕ
price x = x * 16 + 1

-- the price of the code word of u: 16 times its cost, and how many places differ
abbrev pub price_of : ℕ → List ℕ → List Bool → ℕ → ℕ
price_of n q w u = cost n q w u * 16 + ones (differing n w u)

-- no price is above that of eight places of confidence 255
abbrev pub PricesFit : ℕ → List ℕ → List Bool → Type 0
PricesFit n q w = (u : ℕ) → u < code_words n → price_of n q w u ≤ 32648

-- sixteen numbers: the prices of all code words, and past them a number that no price reaches
abbrev pub prices_of : ℕ → List ℕ → List Bool → List ℕ
prices_of n q w = cut (price_of n q w) 0 (code_words n) ++ drop (code_words n) (replicate 16 65535)

-- the sums of any of some prices: entry e is for those whose bits are set in e, the last price with the least significant; and none is above four times 4,081
abbrev pub SumsOf : List ℕ → List ℕ → Type 0
SumsOf ps sums = (e : ℕ) → e < 2 ^ length ps → (get_or sums e 0 ≡ weigh ps (bits (length ps) e)) × (get_or sums e 0 ≤ 16324)

-- the parity that is sent with data u, as a number
abbrev pub parity_number : ℕ → ℕ → ℕ
parity_number n u = value (parity_of n (bits (data_bits n) u))

-- the two sums for data u, where data x and parity y came: of the data bits that differ, and of the parity bits
abbrev pub data_entry : ℕ → List ℕ → ℕ → ℕ
data_entry x ofData u = get_or ofData (bit_xor x u) 0

abbrev pub parity_entry : ℕ → ℕ → List ℕ → ℕ → ℕ
parity_entry n y ofParity u = get_or ofParity (bit_xor y (parity_number n u)) 0

-- both together
abbrev pub entry_price : ℕ → ℕ → ℕ → List ℕ → List ℕ → ℕ → ℕ
entry_price n x y ofData ofParity u = data_entry x ofData u + parity_entry n y ofParity u

-- that there are such sums, and their bounds
abbrev pub EntryFits : ℕ → ℕ → ℕ → List ℕ → List ℕ → ℕ → Type 0
EntryFits n x y ofData ofParity u =
    (bit_xor x u < 16) × (bit_xor y (parity_number n u) < 16) × (data_entry x ofData u ≤ 16324) × (parity_entry n y ofParity u ≤ 16324)

-- of sixteen such numbers: the cost of entry u
abbrev pub cost_in : List ℕ → ℕ → ℕ
cost_in prices u = get_or prices u 0 / 16

-- its key in one number, since data are below 16
abbrev pub key_number : List ℕ → ℕ → ℕ
key_number prices u = cost_in prices u * 16 + u

-- the cheapest entry
abbrev pub least_in : List ℕ → ℕ
least_in prices = least_by (λ u. cost_in prices u ∷ u ∷ []) 16

-- how many have a cost
abbrev pub as_cheap : List ℕ → ℕ → ℕ
as_cheap prices x = ones (cut (λ u. eqb (cost_in prices u) x) 0 16)
