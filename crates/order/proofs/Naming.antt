-- Entries named one logical bit after the other: there are 54 throughout, and with all 54 bits named they are the default order.
-- Assumes nothing.
use mathlib.Core.Path.{◌≡◌, refl, sym, ap, ◌∙◌}
use mathlib.Core.List.{List}
use Prim.Native.Nat.{ℕ, zero, suc}
use lib.ListN.{length, set, replicate, length-set}
use Rattle.order.specs.Order.{place_of, order_by, default_order}
use Rattle.order.specs.Carrying.{carried_place}

-- the entries with the first n logical bits named, each at the place that is carried to it, and 0 at every other place
unfoldable pub named : ℕ → List ℕ
named zero = replicate 54 0
named (suc n) = set (named n) (carried_place n) n

-- naming under way: n logical bits are named, and the place is the one carried to the next
abbrev pub NamedTo : ℕ → ℕ → List ℕ → Type 0
NamedTo n place entries = (place ≡ carried_place n) × (entries ≡ named n)

-- 54 entries
pub named_length : (n : ℕ) → length (named n) ≡ 54
unfolding named
named_length zero = refl
named_length (suc n) = length-set (named n) (carried_place n) n ∙ named_length n

-- one bit more
pub named_more : (n m place : ℕ) (entries : List ℕ) → m ≡ suc n → place ≡ carried_place n → entries ≡ named n → set entries place n ≡ named m
unfolding named
named_more n m place entries e p q =
    ap (λ (l : List ℕ). set l place n) q ∙ ap (λ (t : ℕ). set (named n) t n) p ∙ ap named (sym e)

-- all of them
pub named_all : named 54 ≡ default_order
unfolding named carried_place place_of order_by default_order
named_all = refl

-- the default order has 54 entries
pub default_length : length default_order ≡ 54
default_length = ap (λ (l : List ℕ). length l) (sym named_all) ∙ named_length 54
