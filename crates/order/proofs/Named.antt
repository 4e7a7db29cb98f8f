-- Logical bits taken from one place after the other, in any order: each goes where the order names it.
-- Assumes nothing.
use mathlib.Core.Path.{◌≡◌, refl, sym, ap, ap₂, ◌∙◌, subst}
use mathlib.Core.Bool.{Bool, true, false, ◌&&◌, ◌||◌, and-true, and-false, or-false}
use mathlib.Core.List.{List}
use Prim.Native.Nat.{ℕ, suc, ◌+◌, ◌*◌, ◌-◌, ◌/◌, ◌%◌, ◌^◌, ◌≤◌, ◌<◌, zero-le}
use native.Mathlib.Omega.{arith}
use lib.Bits.{bit_and, bit_or, and_le_r}
use lib.Dec.{eqb, ltb, lit<}
use lib.ListN.{get_or}
use lib.Pow.{shr-shr, shr_le}
use borrow.Author.Tests.{eqb-true, eqb-false, ne_eqb, ltb-true, ltb-false, lt-ltb, le-ltb}
use Rattle.bits.specs.Bits.{bit_num, value, bit, bits, cut, carried}
use Rattle.bits.proofs.Bitwise.{zero_bit, bit_of_and, bit_of_or, bit_down, bit_up}
use Rattle.bits.proofs.Cut.{cut_ext, cut_get_or}
use Rattle.bits.proofs.Digits.{value_bits, bits_at}
use Rattle.bits.proofs.Tests.{equal_at}
use Rattle.order.specs.Order.{Order, place_of}
use Rattle.order.specs.Taking.{OneNamed}
use Rattle.order.proofs.Places.{entry_back, place_lt, place_back}

-- the bit of the first of 56 places
abbrev first : ℕ
first = 36028797018963968

-- it is bit 55 and no other
first_bit : (m : ℕ) → m < 110 → bit m first ≡ eqb (bit_num (eqb m 55)) 1
first_bit m h = ap (λ (x : ℕ). eqb x 1) (equal_at 110 (λ m. first / 2 ^ m % 2) (λ m. bit_num (eqb m 55)) tt m h)

module _ (w j : ℕ) (h : j < 54) where
  abbrev moved : ℕ
  moved = bit_and w first / 2 ^ (2 + j)

  -- the mask takes the first place alone, and a shift moves it
  pub first_named : OneNamed j (carried 56 w 0) moved
  first_named k q = bit_down (54 - suc k) (2 + j) (bit_and w first) ∙ bit_of_and m w first ∙ go (eqb k j) refl
    where
      m : ℕ
      m = 2 + j + (54 - suc k)

      go : (b : Bool) → eqb k j ≡ b → (bit m w && bit m first) ≡ (b && carried 56 w 0)
      go true e =
          let q : m ≡ 55 = omega (arith, eqb-true k j e) in
          ap (λ (k : ℕ). bit k w && bit k first) q ∙ and-true (bit 55 w) ∙ sym (bits_at 56 0 w (lit< tt))
      go false e =
          let d = eqb-false k j e in
          let o : eqb m 55 ≡ false = ne_eqb m 55 (λ x. d (omega (arith, x))) in
          ap (λ (b : Bool). bit m w && b) (first_bit m (omega arith) ∙ ap (λ (b : Bool). eqb (bit_num b) 1) o) ∙ and-false (bit m w)

  pub named_lt : moved < 2 ^ 54
  named_lt =
      let quarter : moved ≤ bit_and w first / 4 = subst (λ (x : ℕ). x ≤ bit_and w first / 4) (shr-shr (bit_and w first) 2 j) (shr_le (bit_and w first / 4) j) in
      omega (arith, quarter, and_le_r w first)

-- the places that are left after t of them have gone out in front
abbrev pub Left : ℕ → ℕ → ℕ → Type 0
Left placed t left = (k : ℕ) → t ≤ k → k < 64 → bit k left ≡ bit (k - t) placed

module _ (placed t left : ℕ) (known : Left placed t left) where
  pub left_more : Left placed (t + 1) (left * 2 % 2 ^ 64)
  left_more k h l =
      let e : k - 1 - t ≡ k - (t + 1) = omega arith in
      bit_up 64 k 1 left l (omega arith) ∙ known (k - 1) (omega arith) (omega arith) ∙ ap (λ (i : ℕ). bit i placed) e

  -- the first of them is place t
  pub left_first : t < 54 → carried 56 left 0 ≡ carried 56 placed t
  left_first h =
      let e : 55 - t ≡ 56 - suc t = omega arith in
      let l : t < 56 = omega arith in
      bits_at 56 0 left (lit< tt) ∙ known 55 (omega arith) (lit< tt) ∙ ap (λ (i : ℕ). bit i placed) e ∙ sym (bits_at 56 t placed l)

-- the bits of the first t places, and 0 for every other
abbrev pub TakenTo : List ℕ → (ℕ → Bool) → ℕ → ℕ → Type 0
TakenTo ord g t number = (j : ℕ) → j < 54 → bit (54 - suc j) number ≡ (ltb (place_of ord j) t && g (place_of ord j))

module _ (ord : List ℕ) (o : Order ord) (g : ℕ → Bool) where
  pub taken_none : TakenTo ord g 0 0
  taken_none j h = zero_bit (54 - suc j) ∙ sym (ap (λ (b : Bool). b && g (place_of ord j)) (le-ltb (place_of ord j) 0 zero-le))

  -- one place more
  pub taken_more : (t number x : ℕ) → t < 54 → TakenTo ord g t number → OneNamed (get_or ord t 0) (g t) x → TakenTo ord g (t + 1) (bit_or number x)
  taken_more t number x h taken one j l =
      bit_of_or (54 - suc j) number x ∙ ap₂ ◌||◌ (taken j l) (one j l) ∙ go (eqb j (get_or ord t 0)) refl
    where
      p : ℕ
      p = place_of ord j

      go : (b : Bool) → eqb j (get_or ord t 0) ≡ b → ((ltb p t && g p) || (b && g t)) ≡ (ltb p (t + 1) && g p)
      go true e =
          let here : p ≡ t = ap (place_of ord) (eqb-true j (get_or ord t 0) e) ∙ place_back ord o t h in
          rw (le-ltb p t (omega (arith, here))) (rw (lt-ltb p (t + 1) (omega (arith, here))) (ap g (sym here)))
      go false e =
          let elsewhere : p ≡ t → ⊥ = λ q. eqb-false j (get_or ord t 0) e (sym (entry_back ord o j l) ∙ ap (λ (s : ℕ). get_or ord s 0) q) in
          or-false (ltb p t && g p) ∙ ap (λ (b : Bool). b && g p) (same (ltb p t) refl elsewhere)
        where
          same : (b : Bool) → ltb p t ≡ b → (p ≡ t → ⊥) → b ≡ ltb p (t + 1)
          same true q d = sym (lt-ltb p (t + 1) (omega (arith, ltb-true p t q)))
          same false q d = sym (le-ltb p (t + 1) (omega (arith, ltb-false p t q, d)))

  -- all of them
  pub taken_all : (number : ℕ) → number < 2 ^ 54 → TakenTo ord g 54 number → number ≡ value (cut (λ j. g (place_of ord j)) 0 54)
  taken_all number b taken =
      sym (value_bits 54 number b)
      ∙ ap value (sym (cut_get_or false (bits 54 number)) ∙ cut_ext (carried 54 number) (λ j. g (place_of ord j)) 0 54 (λ j l h. bits_at 54 j number h ∙ taken j h
      ∙ ap (λ (c : Bool). c && g (place_of ord j)) (lt-ltb (place_of ord j) 54 (place_lt ord o j h))))
