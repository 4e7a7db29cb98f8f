-- The carried place is 7 × j modulo 54 at every logical bit j, by induction.
-- Assumes nothing.
use mathlib.Core.Path.{◌≡◌, refl, sym, ap, ◌∙◌, subst⁻¹}
use mathlib.Core.Bool.{Bool, true, false, cond}
use Prim.Native.Nat.{ℕ, zero, suc, ◌+◌, ◌*◌, ◌-◌, ◌/◌, ◌%◌, ◌<◌}
use native.Mathlib.Nat.{mod-lt}
use native.Mathlib.Omega.{arith}
use lib.Arith.{digits_mod}
use lib.Dec.{leb, lit<}
use borrow.Author.Tests.{leb-true, leb-false}
use Rattle.order.specs.Carrying.{next_place, carried_place, CarriedPlaces}

-- the place after that of logical bit j
next_is : (j : ℕ) → next_place (7 * j % 54) ≡ 7 * suc j % 54
next_is j = go (leb 54 (7 * j % 54 + 7)) refl
  where
    -- a number by its quotient and its remainder has that remainder
    remainder : (q r : ℕ) → r < 54 → q * 54 + r ≡ 7 * suc j → r ≡ 7 * suc j % 54
    remainder q r h e = sym (digits_mod q h) ∙ ap (λ (n : ℕ). n % 54) e

    go : (b : Bool) → leb 54 (7 * j % 54 + 7) ≡ b → cond b (7 * j % 54 + 7 - 54) (7 * j % 54 + 7) ≡ 7 * suc j % 54
    go true e = let h = leb-true 54 (7 * j % 54 + 7) e in remainder (7 * j / 54 + 1) (7 * j % 54 + 7 - 54) (omega (arith, h)) (omega (arith, h))
    go false e = remainder (7 * j / 54) (7 * j % 54 + 7) (leb-false 54 (7 * j % 54 + 7) e) (omega arith)

-- at every logical bit, by induction
pub carried_places : CarriedPlaces
unfolding carried_place
carried_places zero = refl
carried_places (suc j) = ap next_place (carried_places j) ∙ next_is j

-- one bit more: the next place is the one carried to it
pub carried_more : (n m place : ℕ) → m ≡ suc n → place ≡ carried_place n → next_place place ≡ carried_place m
unfolding carried_place
carried_more n m place e p = ap next_place p ∙ ap carried_place (sym e)

-- a carried place is a place
pub carried_lt : (j : ℕ) → carried_place j < 54
carried_lt j = subst⁻¹ (λ (t : ℕ). t < 54) (carried_places j) (mod-lt (7 * j) (lit< tt))
