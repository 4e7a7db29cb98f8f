-- The sign and the size of a signed number of 64 bits, from the test whether it is negative. The size is by what lies between the number and -1:
-- -1 - x is not negative and fits, even for the least number. Assumes nothing.
use mathlib.Core.Path.{◌≡◌, refl, ap}
use mathlib.Core.Bool.{Bool}
use mathlib.Core.List.{List, ◌++◌}
use Prim.Native.Nat.{ℕ, suc, ◌≤◌, ◌<◌, ◌^◌}
use native.Mathlib.Omega.{arith}
use lib.ListN.{length, take, length-append}
use lib.IntN.{ℤ, pos, negsuc}
use lib.Signed.{lt_z}
use mir.Syntax.{w64}
use mir.Val.{SFits, bool_byte}
use borrow.Author.Tests.{le-ltb}
use Rattle.text.specs.Text.{ascii, decimal, sign, signed}
use Rattle.text.proofs.Decimals.{decimal_length}

-- by the test: what starts with a minus, up to it or up to nothing
pub sign_is : (x : ℤ) (rest : List ℕ) → take (bool_byte (lt_z x (pos 0))) (ascii "-" ++ rest) ≡ sign x
sign_is (pos n) rest = ap (λ (t : Bool). take (bool_byte t) (ascii "-" ++ rest)) (le-ltb n 0 (omega arith))
sign_is (negsuc n) rest = refl

-- a signed number has at most 21 bytes
pub signed_length_le : (x : ℤ) → SFits w64 x → length (signed x) ≤ 21
signed_length_le (pos n) f =
    let h : n < 2 ^ 63 = f.sfits in
    omega (arith, decimal_length 19 n (omega arith))
signed_length_le (negsuc n) f =
    let h : n < 2 ^ 63 = f.sfits in
    omega (arith, decimal_length 19 (suc n) (omega arith), length-append (ascii "-") (decimal (suc n)))
