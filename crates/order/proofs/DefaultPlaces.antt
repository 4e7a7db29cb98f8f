-- The moves that put the logical bits of the default order at their places.
-- Assumes nothing.
use mathlib.Core.Path.{◌≡◌, refl, sym, ap, ◌∙◌}
use mathlib.Core.Bool.{Bool, true, false, cond}
use mathlib.Core.List.{List, [], ◌∷◌}
use Prim.Native.Nat.{ℕ, suc, ◌-◌, ◌≤◌, ◌<◌}
use native.Mathlib.Omega.{arith}
use lib.Dec.{ltb, lit<}
use lib.ListN.{get_or}
use borrow.Author.Tests.{ltb-true, ltb-false}
use Rattle.bits.specs.Bits.{value, bits, cut, carried}
use Rattle.bits.proofs.Bitwise.{zero_bit}
use Rattle.bits.proofs.Cut.{cut_ext, cut_get_or}
use Rattle.bits.proofs.Digits.{value_bits, bits_at}
use Rattle.bits.proofs.Tests.{every_at}
use Rattle.order.specs.Order.{place_of, order_by, default_order, placed}
use Rattle.order.proofs.DefaultOrder.{default_order_lem}
use Rattle.order.proofs.Places.{entry_lt}
use Rattle.order.proofs.Moves.{Move, up, down, moved, comes, unnamed, moved_bit, moved_stays, moved_lt}

-- the code's moves, those of taking the other way round: place t stands at bit 55 - t, the bit that it gets at bit 53 less its number
abbrev pub moves : List Move
moves =
    down 40 64
    ∷ down 34 8208
    ∷ down 28 1050628
    ∷ down 22 134480384
    ∷ down 16 17213489280
    ∷ down 10 2203326627872
    ∷ down 4 282025808367624
    ∷ up 2 36099303471055872
    ∷ up 8 9024825867763968
    ∷ up 14 2256206466940928
    ∷ up 20 564051616727040
    ∷ up 26 141012903133184
    ∷ up 32 18049651601047552
    ∷ up 38 4512395720392704
    ∷ up 44 1125899906842624
    ∷ []

module _ (p : ℕ) where
  abbrev put : ℕ
  put = moved moves p 0

  -- each place gets the bit that the order names
  place_put : (t : ℕ) → t < 54 → carried 56 put t ≡ carried 54 p (get_or default_order t 0)
  unfolding place_of order_by default_order
  place_put t h =
      let l : t < 56 = omega arith in
      bits_at 56 t put l
      ∙ moved_bit moves (56 - suc t) (54 - suc (get_or default_order t 0)) p 0 false (omega arith)
      (every_at 54 (λ t. comes moves (56 - suc t) (54 - suc (get_or default_order t 0)) false) tt t h) (zero_bit (56 - suc t))
      ∙ sym (bits_at 54 (get_or default_order t 0) p (entry_lt default_order default_order_lem t h))

  -- the two past the last get none
  past_put : (t : ℕ) → 54 ≤ t → t < 56 → carried 56 put t ≡ false
  past_put t l h =
      let k : ℕ = 56 - suc t in
      bits_at 56 t put h ∙ moved_stays k moves p 0 (every_at 2 (λ k. unnamed k moves) tt k (omega arith)) ∙ zero_bit k

  at : (t : ℕ) → t < 56 → carried 56 put t ≡ placed default_order (carried 54 p) t
  at t h = go (ltb t 54) refl
    where
      go : (b : Bool) → ltb t 54 ≡ b → carried 56 put t ≡ cond b (carried 54 p (get_or default_order t 0)) false
      go true e = place_put t (ltb-true t 54 e)
      go false e = past_put t (ltb-false t 54 e) h

  -- so together they are the places
  pub put_is : put ≡ value (cut (placed default_order (carried 54 p)) 0 56)
  put_is =
      sym (value_bits 56 put (moved_lt 56 moves p 0 tt (lit< tt)))
      ∙ ap value (sym (cut_get_or false (bits 56 put)) ∙ cut_ext (carried 56 put) (placed default_order (carried 54 p)) 0 56 (λ t l h. at t h))
