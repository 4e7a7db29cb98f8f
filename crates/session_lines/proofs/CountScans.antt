-- A number in a text, by its bytes: whether it stands as in decimal, with a line end after it. Assumes nothing.
use mathlib.Core.Path.{◌≡◌, refl, sym, ap, ◌∙◌, subst}
use mathlib.Core.Bool.{Bool, true, false, ◌&&◌, ◌||◌, cond, and-true, and-false, false≢true}
use mathlib.Core.List.{List, [], ◌∷◌, ◌++◌, append_assoc}
use Prim.Native.Nat.{ℕ, zero, suc, ◌+◌, ◌-◌, ◌*◌, ◌/◌, ◌%◌, ◌≤◌, ◌<◌}
use native.Mathlib.Omega.{arith}
use lib.Dec.{ltb, leb, eqb}
use lib.ListN.{length, get_or, take}
use lib.Seq.{length-take-le}
use borrow.Author.Tests.{lt-ltb, ltb-true, ltb-false, eq-eqb, ne_eqb, eqb-true}
use Rattle.bits.specs.Ascii.{digit_byte}
use Rattle.text.specs.Text.{digits, decimal}
use Rattle.text.proofs.Decimals.{decimal_one}
use Rattle.session_lines.specs.Lines.{digits_value}
use Rattle.session_lines.specs.Scans.{begins, digits_in}
use Rattle.session_lines.proofs.Scans.{eqb_comm}
use Rattle.session_lines.proofs.Values.{digit_cases}
use Rattle.session_lines.proofs.Digits.{digits_le, digits_zero, digits_first, decimal_after}

-- a text begins with its own front and a line end where that stands after the front
front_ended : (d : ℕ) (t : List ℕ) → begins (take d t ++ (10 ∷ [])) t ≡ eqb (get_or t d 0) 10
unfolding begins
front_ended zero [] = refl
front_ended (suc d) [] = refl
front_ended zero (c ∷ cs) = and-true (eqb 10 c) ∙ eqb_comm 10 c
front_ended (suc d) (c ∷ cs) = ap (λ (b : Bool). b && begins (take d cs ++ (10 ∷ [])) cs) (eq-eqb c c refl) ∙ front_ended d cs

-- no number but 0 begins with `0`
zero_front : (k n : ℕ) (t cs : List ℕ) → 1 ≤ n → n < k → begins (digits k n ++ t) (48 ∷ cs) ≡ false
unfolding digits begins
zero_front zero n t cs h l = absurd (omega arith)
zero_front (suc k) n t cs h l = go (ltb n 10) refl (λ m. zero_front k (n / 10) (digit_byte (n % 10) ∷ t) cs (omega arith) (omega arith))
  where
    go : (b : Bool) → ltb n 10 ≡ b → (10 ≤ n → begins (digits k (n / 10) ++ (digit_byte (n % 10) ∷ t)) (48 ∷ cs) ≡ false)
        → begins (cond b (digit_byte n ∷ []) (digits k (n / 10) ++ (digit_byte (n % 10) ∷ [])) ++ t) (48 ∷ cs) ≡ false
    go true e f = rw (ne_eqb (digit_byte n) 48 (λ z. omega arith)) refl
    go false e f = ap (λ (w : List ℕ). begins w (48 ∷ cs)) (append_assoc (digits k (n / 10)) (digit_byte (n % 10) ∷ []) t) ∙ f (ltb-false n 10 e)

-- s digits in front of a text, none of them a `0` before another, and a line end after them
abbrev pub well_ended : ℕ → List ℕ → Bool
well_ended s t = (ltb 48 (get_or t 0 0) || eqb s 1) && eqb (get_or t s 0) 10

-- so a text tells whether it begins with n as in decimal and a line end; where it does, s is the number of its digits
abbrev Told : ℕ → ℕ → List ℕ → Type 0
Told n s t = (begins (decimal n ++ (10 ∷ [])) t ≡ well_ended s t) × (well_ended s t ≡ true → length (decimal n) ≡ s)

-- no digit
none_told : (c : ℕ) (cs : List ℕ) → (c ≡ 48 → ⊥) → Told 0 0 (c ∷ cs)
unfolding begins
none_told c cs other =
    let out : well_ended 0 (c ∷ cs) ≡ false = go (eqb c 10) refl in
    (rw (decimal_one 0 (omega arith), ne_eqb 48 c (λ z. other (sym z))) (sym out), λ e. absurd (false≢true (sym out ∙ e)))
  where
    go : (t : Bool) → eqb c 10 ≡ t → (ltb 48 c || false) && t ≡ false
    go true e = rw (eqb-true c 10 e) refl
    go false e = and-false (ltb 48 c || false)

module _ (cs : List ℕ) where
  abbrev more : ℕ
  more = digits_in (take 3 cs)

  -- a first digit above 0
  high_told : (c : ℕ) → 48 < c → c ≤ 57 → Told (digits_value (c - 48) (take 3 cs)) (suc more) (c ∷ cs)
  unfolding begins
  high_told c low high =
      let one : digit_byte (c - 48) ≡ c = omega arith in
      let all : decimal (digits_value (c - 48) (take 3 cs)) ≡ c ∷ take more cs =
      decimal_after 3 (c - 48) cs (omega arith)
      ∙ ap (λ (l : List ℕ). l ++ take more cs) (decimal_one (c - 48) (omega arith) ∙ ap (λ (b : ℕ). b ∷ []) one) in
      (rw (all, eq-eqb c c refl, front_ended more cs, lt-ltb 48 c low) refl, λ e. rw all (omega (arith, length-take-le more cs (digits_le 3 cs))))

  -- a `0`: it is the number, or a digit comes after it
  zero_told : (m : ℕ) → more ≡ m → Told (digits_value 0 (take 3 cs)) (suc m) (48 ∷ cs)
  unfolding begins decimal
  zero_told zero e = rw (digits_zero 0 (take 3 cs) e, decimal_one 0 (omega arith)) (front_ended 0 cs, λ t. refl)
  zero_told (suc m) e = (go (digits_value 0 (take 3 cs)) ∙ sym out, λ t. absurd (false≢true (sym out ∙ t)))
    where
      out : well_ended (suc (suc m)) (48 ∷ cs) ≡ false
      out = ap (λ (b : Bool). b && eqb (get_or cs (suc m) 0) 10) (ne_eqb (suc (suc m)) 1 (λ z. omega arith))

      go : (n : ℕ) → begins (decimal n ++ (10 ∷ [])) (48 ∷ cs) ≡ false
      go zero = ap (λ (l : List ℕ). begins (l ++ (10 ∷ [])) (48 ∷ cs)) (decimal_one 0 (omega arith)) ∙ front_ended 0 cs ∙ ne_eqb (get_or cs 0 0) 10 (λ z. omega (arith, digits_first 3 m cs e))
      go (suc n) = zero_front (suc (suc n)) (suc n) (10 ∷ []) cs (omega arith) (omega arith)

-- any text
pub number_told : (t : List ℕ) → Told (digits_value 0 (take 4 t)) (digits_in (take 4 t)) t
unfolding begins digits_value digits_in
number_told [] = rw (decimal_one 0 (omega arith)) (refl, λ e. absurd (false≢true e))
number_told (c ∷ cs) =
    digit_cases
    (λ b. leb 48 c && leb c 57 ≡ b → Told (cond b (digits_value (10 * 0 + (c - 48)) (take 3 cs)) 0) (cond b (suc (digits_in (take 3 cs))) 0) (c ∷ cs)) c
    (λ low high e. go (ltb 48 c) refl low high)
    (λ e. none_told c cs (λ z. false≢true (sym e ∙ ap (λ (x : ℕ). leb 48 x && leb x 57) z)))
    refl
  where
    go : (b : Bool) → ltb 48 c ≡ b → 48 ≤ c → c ≤ 57 → Told (digits_value (10 * 0 + (c - 48)) (take 3 cs)) (suc (digits_in (take 3 cs))) (c ∷ cs)
    go true e low high = let z : 10 * 0 + (c - 48) ≡ c - 48 = omega arith in rw z (high_told cs c (ltb-true 48 c e) high)
    go false e low high =
        let z : 48 ≡ c = omega (arith, ltb-false 48 c e) in
        subst (λ (x : ℕ). Told (digits_value (10 * 0 + (x - 48)) (take 3 cs)) (suc (digits_in (take 3 cs))) (x ∷ cs)) z (zero_told cs (digits_in (take 3 cs)) refl)
