-- The digits in front of a text: how many they are, and that after a number in decimal they are those of their value. Assumes nothing.
use mathlib.Core.Path.{◌≡◌, refl, sym, ap, ◌∙◌}
use mathlib.Core.Bool.{cond}
use mathlib.Core.List.{List, [], ◌∷◌, ◌++◌, append_assoc, append-nil}
use Prim.Native.Nat.{ℕ, zero, suc, ◌+◌, ◌-◌, ◌*◌, ◌/◌, ◌%◌, ◌≤◌, ◌<◌}
use native.Mathlib.Numerals.{add-one}
use native.Mathlib.Omega.{arith}
use lib.ListN.{length, get_or, take, drop, drop_of_length-le}
use lib.Seq.{drop-cons}
use borrow.Author.Tests.{le-leb}
use Rattle.bits.specs.Ascii.{digit_byte}
use Rattle.text.specs.Text.{decimal}
use Rattle.text.proofs.Decimals.{decimal_more}
use Rattle.session_lines.specs.Lines.{digits_value}
use Rattle.session_lines.specs.Scans.{digits_in}
use Rattle.session_lines.proofs.Values.{digit_cases}

-- from place i on, by the byte there: a digit counts, and any other byte stops
module _ (t : List ℕ) (i v : ℕ) (h : i < length t) where
  abbrev c : ℕ
  c = get_or t i 0

  pub digit_taken : 48 ≤ c → c ≤ 57
      → (digits_value v (drop i t) ≡ digits_value (10 * v + (c - 48)) (drop (i + 1) t)) × (digits_in (drop i t) ≡ suc (digits_in (drop (i + 1) t)))
  unfolding digits_in digits_value
  digit_taken low high = rw (add-one, drop-cons t i 0 h, le-leb 48 c low, le-leb c 57 high) (refl, refl)

  pub digits_stop : (48 ≤ c → c ≤ 57 → ⊥) → (digits_value v (drop i t) ≡ v) × (digits_in (drop i t) ≡ 0)
  unfolding digits_in digits_value
  digits_stop other =
      rw (drop-cons t i 0 h)
      (digit_cases (λ b. (cond b (digits_value (10 * v + (c - 48)) (drop (suc i) t)) v ≡ v) × (cond b (suc (digits_in (drop (suc i) t))) 0 ≡ 0)) c
      (λ low high. absurd (other low high)) (refl, refl))

-- past the last byte there is none
pub digits_out : (t : List ℕ) (i v : ℕ) → length t ≤ i → (digits_value v (drop i t) ≡ v) × (digits_in (drop i t) ≡ 0)
unfolding digits_in digits_value
digits_out t i v h = rw (drop_of_length-le t h) (refl, refl)

-- there are no more of them than bytes
pub digits_le : (k : ℕ) (t : List ℕ) → digits_in (take k t) ≤ length t
unfolding digits_in
digits_le zero t = omega arith
digits_le (suc k) [] = omega arith
digits_le (suc k) (c ∷ cs) =
    let more = digits_le k cs in
    digit_cases (λ b. cond b (suc (digits_in (take k cs))) 0 ≤ suc (length cs)) c (λ low high. omega (arith, more)) (omega arith)

-- where none is in front the value stands
pub digits_zero : (v : ℕ) (t : List ℕ) → digits_in t ≡ 0 → digits_value v t ≡ v
unfolding digits_in digits_value
digits_zero v [] e = refl
digits_zero v (c ∷ cs) e =
    digit_cases (λ b. cond b (suc (digits_in cs)) 0 ≡ 0 → cond b (digits_value (10 * v + (c - 48)) cs) v ≡ v) c (λ low high z. absurd (omega arith)) (λ z. refl) e

-- where one is, the first byte is a digit
pub digits_first : (k m : ℕ) (t : List ℕ) → digits_in (take k t) ≡ suc m → 48 ≤ get_or t 0 0
unfolding digits_in
digits_first zero m t e = absurd (omega arith)
digits_first (suc k) m [] e = absurd (omega arith)
digits_first (suc k) m (c ∷ cs) e = digit_cases (λ b. cond b (suc (digits_in (take k cs))) 0 ≡ suc m → 48 ≤ c) c (λ low high z. low) (λ z. absurd (omega arith)) e

-- a digit after a number in decimal
decimal_then : (v c : ℕ) → 1 ≤ v → 48 ≤ c → c ≤ 57 → decimal (10 * v + (c - 48)) ≡ decimal v ++ (c ∷ [])
decimal_then v c h low high =
    let n = 10 * v + (c - 48) in
    let tens : n / 10 ≡ v = omega arith in
    let ones : digit_byte (n % 10) ≡ c = omega arith in
    decimal_more n (omega arith) ∙ (λ i. decimal (tens i) ++ (ones i ∷ []))

-- any digits after a number
pub decimal_after : (k v : ℕ) (t : List ℕ) → 1 ≤ v → decimal (digits_value v (take k t)) ≡ decimal v ++ take (digits_in (take k t)) t
unfolding digits_value digits_in
decimal_after zero v t h = sym (append-nil (decimal v))
decimal_after (suc k) v [] h = sym (append-nil (decimal v))
decimal_after (suc k) v (c ∷ cs) h =
    let next = 10 * v + (c - 48) in
    let after = decimal_after k next cs in
    digit_cases (λ b. decimal (cond b (digits_value next (take k cs)) v) ≡ decimal v ++ take (cond b (suc (digits_in (take k cs))) 0) (c ∷ cs)) c
    (λ low high.
    after (omega arith)
    ∙ ap (λ (l : List ℕ). l ++ take (digits_in (take k cs)) cs) (decimal_then v c h low high)
    ∙ append_assoc (decimal v) (c ∷ []) (take (digits_in (take k cs)) cs))
    (sym (append-nil (decimal v)))
