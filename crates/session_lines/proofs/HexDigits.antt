-- Hexadecimal digits one by one: each value has its digit, each digit its value, and lists of them by their places. Assumes nothing.
use mathlib.Core.Path.{◌≡◌, refl}
use mathlib.Core.Bool.{Bool, true, false, ◌&&◌, ◌||◌, and-eq-true_iff}
use mathlib.Core.List.{List, [], ◌∷◌}
use Prim.Native.Nat.{ℕ, zero, suc, ◌≤◌, ◌<◌}
use native.Mathlib.Nat.{not-suc-le-zero, le_of_suc-le-suc}
use native.Mathlib.Omega.{arith}
use lib.Dec.{T, leb, eqb, leb→le, eqb→eq}
use lib.ListN.{length, get_or}
use borrow.Author.Tests.{leb-true}
use Rattle.bits.specs.Lists.{Every}
use Rattle.bits.proofs.Tests.{and_left, and_right, true_T, implies, implies_at, every_at, equal_at}
use Rattle.session.specs.Format.{hex_digit}
use Rattle.session_lines.specs.Lines.{is_hex, hex_value, all_hex}

-- the digit of a value below 16 is a digit
pub digit_is : (d : ℕ) → d < 16 → is_hex (hex_digit d) ≡ true
digit_is d h = true_T (is_hex (hex_digit d)) (every_at 16 (λ d. is_hex (hex_digit d)) tt d h)

-- and has this value
pub digit_value : (d : ℕ) → d < 16 → hex_value (hex_digit d) ≡ d
digit_value d h = equal_at 16 (λ d. hex_value (hex_digit d)) (λ d. d) tt d h

module _ (c : ℕ) (e : is_hex c ≡ true) where
  -- a digit lies between `0` and `f`, so it ends no line
  pub hex_bounds : (48 ≤ c) × (c ≤ 102)
  hex_bounds = go (leb 48 c && leb c 57) refl e
    where
      go : (t : Bool) → leb 48 c && leb c 57 ≡ t → t || (leb 97 c && leb c 102) ≡ true → (48 ≤ c) × (c ≤ 102)
      go true q r = let p = (and-eq-true_iff (leb 48 c) (leb c 57)).0 q in (leb-true 48 c p.0, omega (arith, leb-true c 57 p.1))
      go false q r = let p = (and-eq-true_iff (leb 97 c) (leb c 102)).0 r in (omega (arith, leb-true 97 c p.0), leb-true c 102 p.1)

  -- the test that antt computes of each digit
  tested : T (eqb (hex_digit (hex_value c)) c && leb (hex_value c) 15)
  tested =
      implies_at (is_hex c) (eqb (hex_digit (hex_value c)) c && leb (hex_value c) 15)
      (every_at 103 (λ c. implies (is_hex c) (eqb (hex_digit (hex_value c)) c && leb (hex_value c) 15)) tt c (omega (arith, hex_bounds.1))) e

  -- a digit is that of its value
  pub hex_back : hex_digit (hex_value c) ≡ c
  hex_back = eqb→eq (hex_digit (hex_value c)) c (and_left (eqb (hex_digit (hex_value c)) c) (leb (hex_value c) 15) tested)

  -- the value of a digit is at most 15
  pub hex_value_le : hex_value c ≤ 15
  hex_value_le = leb→le (hex_value c) 15 (and_right (eqb (hex_digit (hex_value c)) c) (leb (hex_value c) 15) tested)

-- the first of digits is one, and so are the others
pub hex_parts : (c : ℕ) (cs : List ℕ) → all_hex (c ∷ cs) ≡ true → (is_hex c ≡ true) × (all_hex cs ≡ true)
unfolding all_hex
hex_parts c cs e = (and-eq-true_iff (is_hex c) (all_hex cs)).0 e

-- a byte among digits is one
pub hex_digit_at : (ds : List ℕ) (i : ℕ) → all_hex ds ≡ true → i < length ds → is_hex (get_or ds i 0) ≡ true
hex_digit_at [] i e h = absurd (not-suc-le-zero h)
hex_digit_at (c ∷ cs) zero e h = (hex_parts c cs e).0
hex_digit_at (c ∷ cs) (suc i) e h = hex_digit_at cs i (hex_parts c cs e).1 (le_of_suc-le-suc h)

-- none of them ends a line
pub hex_plain : (ds : List ℕ) → all_hex ds ≡ true → Every (λ b. b ≡ 10 → ⊥) ds
hex_plain [] e = tt
hex_plain (c ∷ cs) e = let p = hex_parts c cs e in (λ q. omega (arith, (hex_bounds c p.0).0), hex_plain cs p.1)
