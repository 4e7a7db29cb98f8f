-- A number's last two digits after those of its hundreds: the room for both, and the text that they make. Assumes nothing.
use mathlib.Core.Path.{◌≡◌, ap, ◌∙◌}
use mathlib.Core.List.{List, [], ◌∷◌}
use Prim.Native.Nat.{ℕ, ◌+◌, ◌/◌, ◌%◌, ◌≤◌, ◌<◌}
use native.Mathlib.Omega.{arith}
use lib.ListN.{length, length-append}
use Rattle.bits.specs.Ascii.{digit_byte}
use Rattle.text.specs.Text.{decimal}
use Rattle.text.specs.Placing.{Put}
use Rattle.text.proofs.Decimals.{decimal_two, decimal_pairs}
use Rattle.text.proofs.Puts.{put_append}

-- the two digits of a number below a hundred
abbrev pub pair : ℕ → List ℕ
pair n = digit_byte (n / 10) ∷ digit_byte (n % 10) ∷ []

-- the hundreds of a number of four digits are a pair
pub pair_is : (n : ℕ) → 1000 ≤ n → n < 10000 → decimal (n / 100) ≡ pair (n / 100 % 100)
pair_is n h l =
    let e : n / 100 ≡ n / 100 % 100 = omega arith in
    decimal_two (n / 100) (omega arith) (omega arith) ∙ ap pair e

pub pair_length : (n : ℕ) → 1000 ≤ n → n < 10000 → length (decimal (n / 100)) ≡ 2
pair_length n h l = ap length (pair_is n h l)

-- two digits more than its hundreds
pub decimal_length_more : (n : ℕ) → 100 ≤ n → length (decimal n) ≡ length (decimal (n / 100)) + 2
decimal_length_more n h = rw (decimal_pairs n h) (length-append (decimal (n / 100)) (pair (n % 100)))

-- the digits of the hundreds and then the last two are the number
pub decimal_put : (n : ℕ) (a b c : List ℕ) (at m r : ℕ) → 100 ≤ n → at ≤ length a → Put a at (decimal (n / 100)) b m → Put b m (pair (n % 100)) c r
    → Put a at (decimal n) c r
decimal_put n a b c at m r many h p q = rw (decimal_pairs n many) (put_append a b c at m r (decimal (n / 100)) (pair (n % 100)) h p q)
