-- Digits one by one: what a reader has seen so far and what is still to come. Assumes nothing.
use mathlib.Core.Path.{◌≡◌, refl, ap}
use mathlib.Core.Bool.{Bool, true, false, not, ◌&&◌, and-eq-true_iff, and-true}
use mathlib.Core.List.{List, [], ◌∷◌}
use Prim.Native.Nat.{ℕ, zero, suc, ◌+◌, ◌-◌, ◌*◌, ◌^◌, ◌≤◌, ◌<◌}
use native.Mathlib.Nat.{not-suc-le-zero, le_of_suc-le-suc, pow-suc, pow-le-pow_right}
use native.Mathlib.Numerals.{add-one}
use native.Mathlib.Omega.{arith}
use lib.Dec.{leb, eqb}
use lib.ListN.{length, get_or, take, drop, drop_of_length-le}
use lib.Seq.{drop-cons}
use borrow.Author.Tests.{leb-true}
use Rattle.std.proofs.lemmas.Bool.Decides.{nat_tests}
use Rattle.std.specs.Prelude.{nat_eq}
use Rattle.std.specs.List.{list_all}
use Rattle.std.specs.Cmp.Lexicographic.{pointwise}
use Rattle.codebook_text.specs.Text.{is_negative, unsigned, is_digit, all_digits, is_digits, value_after, digits_value, is_number}

-- both of two tests
pub both : (a b : Bool) → a && b ≡ true → (a ≡ true) × (b ≡ true)
both a b = (and-eq-true_iff a b).0

-- a line starts with a minus where its first byte is one
pub minus_first : (line : List ℕ) → pointwise nat_eq (45 ∷ []) (take 1 line) ≡ is_negative line
unfolding is_negative
minus_first [] = refl
minus_first (c ∷ cs) = grind (arith, nat_tests)

pub first_minus : (line : List ℕ) → pointwise nat_eq (take 1 line) (45 ∷ []) ≡ is_negative line
unfolding is_negative
first_minus [] = refl
first_minus (c ∷ cs) = and-true (eqb c 45)

-- what follows it
pub past_minus : (line : List ℕ) → is_negative line ≡ true → drop 1 line ≡ unsigned line
unfolding unsigned
past_minus line e = rw e refl

pub no_minus : (line : List ℕ) → is_negative line ≡ false → line ≡ unsigned line
unfolding unsigned
no_minus line e = rw e refl

-- what the length and the bytes of one to ten digits are
pub digits_parts : (cs : List ℕ) → is_digits cs ≡ true → (1 ≤ length cs) × (length cs ≤ 10) × (all_digits cs ≡ true)
unfolding is_digits
digits_parts cs e =
    let p = both (leb 1 (length cs) && leb (length cs) 10) (all_digits cs) e in
    let q = both (leb 1 (length cs)) (leb (length cs) 10) p.0 in
    (leb-true 1 (length cs) q.0, leb-true (length cs) 10 q.1, p.1)

-- a byte among digits is one
pub digit_at : (cs : List ℕ) (i : ℕ) → all_digits cs ≡ true → i < length cs → (48 ≤ get_or cs i 0) × (get_or cs i 0 ≤ 57)
unfolding all_digits
digit_at [] i e h = absurd (not-suc-le-zero h)
digit_at (c ∷ cs) zero e h =
    let p = both (leb 48 c) (leb c 57) (both (is_digit c) (all_digits cs) e).0 in
    (leb-true 48 c p.0, leb-true c 57 p.1)
digit_at (c ∷ cs) (suc i) e h = digit_at cs i (both (is_digit c) (all_digits cs) e).1 (le_of_suc-le-suc h)

-- a test of all is std's own
pub all_digits_is : (cs : List ℕ) → list_all is_digit cs ≡ all_digits cs
unfolding all_digits
all_digits_is [] = refl
all_digits_is (c ∷ cs) = ap (λ (b : Bool). is_digit c && b) (all_digits_is cs)

module _ (cs : List ℕ) (i : ℕ) (h : i < length cs) where
  -- one digit more
  pub value_more : (v : ℕ) → value_after v (drop i cs) ≡ value_after (10 * v + (get_or cs i 0 - 48)) (drop (i + 1) cs)
  unfolding value_after
  value_more v = rw (add-one, drop-cons cs i 0 h) refl

-- with no digit left the value stands
pub value_out : (cs : List ℕ) (i v : ℕ) → length cs ≤ i → value_after v (drop i cs) ≡ v
unfolding value_after
value_out cs i v h = rw (drop_of_length-le cs h) refl

-- i digits write a value below the power of ten, and one more digit one below the next
pub value_lt : (v d i : ℕ) → v < 10 ^ i → d ≤ 9 → 10 * v + d < 10 ^ (i + 1)
value_lt v d i h k =
    let e : 10 ^ (i + 1) ≡ 10 ^ i * 10 = rw add-one (pow-suc 10 i) in
    omega arith

-- up to ten digits write a value below ten to the ten
pub value_fits : (v i : ℕ) → v < 10 ^ i → i ≤ 10 → v < 10000000000
value_fits v i h k =
    let p : 10 ^ i ≤ 10 ^ 10 = pow-le-pow_right (omega arith) k in
    omega arith

-- a good line has one to ten digits after its sign
pub number_digits : (line : List ℕ) → is_number line ≡ true → is_digits (unsigned line) ≡ true
unfolding is_number
number_digits line e = (both (is_digits (unsigned line)) (not (is_negative line && eqb (digits_value (unsigned line)) 0)) e).0
