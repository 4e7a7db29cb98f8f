-- The moves that take the logical bits of the default order from their places.
-- Assumes nothing.
use mathlib.Core.Path.{◌≡◌, sym, ap, ◌∙◌}
use mathlib.Core.Bool.{false}
use mathlib.Core.List.{List, [], ◌∷◌}
use Prim.Native.Nat.{ℕ, suc, ◌*◌, ◌-◌, ◌%◌, ◌<◌}
use native.Mathlib.Omega.{arith}
use lib.Dec.{lit<}
use Rattle.bits.specs.Bits.{value, bits, cut, carried}
use Rattle.bits.proofs.Bitwise.{zero_bit}
use Rattle.bits.proofs.Cut.{cut_ext, cut_get_or}
use Rattle.bits.proofs.Digits.{value_bits, bits_at}
use Rattle.bits.proofs.Tests.{every_at}
use Rattle.order.specs.Order.{default_order, place_of}
use Rattle.order.proofs.DefaultOrder.{default_place}
use Rattle.order.proofs.Moves.{Move, up, down, moved, comes, moved_bit, moved_lt}

-- the code's moves: logical bit j stands at bit 53 - j, its place at bit 55 - 7 × j modulo 54
abbrev pub moves : List Move
moves =
    up 40 70368744177664
    ∷ up 34 141012366262272
    ∷ up 28 282025806266368
    ∷ up 22 564051612532736
    ∷ up 16 1128103233454080
    ∷ up 10 2256206466940928
    ∷ up 4 4512412933881984
    ∷ down 2 9024825867763968
    ∷ down 8 35253226045953
    ∷ down 14 137707914242
    ∷ down 20 537921540
    ∷ down 26 2101256
    ∷ down 32 4202512
    ∷ down 38 16416
    ∷ down 44 64
    ∷ []

module _ (p : ℕ) where
  abbrev taken : ℕ
  taken = moved moves p 0

  -- each logical bit comes from its place
  bit_taken : (j : ℕ) → j < 54 → carried 54 taken j ≡ carried 56 p (place_of default_order j)
  bit_taken j h =
      let t : ℕ = 7 * j % 54 in
      let l : t < 56 = omega arith in
      bits_at 54 j taken h
      ∙ moved_bit moves (54 - suc j) (56 - suc t) p 0 false (omega arith)
      (every_at 54 (λ j. comes moves (54 - suc j) (56 - suc (7 * j % 54)) false) tt j h) (zero_bit (54 - suc j))
      ∙ sym (bits_at 56 t p l)
      ∙ ap (carried 56 p) (sym (default_place j h))

  -- so together they are the logical bits
  pub taken_is : taken ≡ value (cut (λ j. carried 56 p (place_of default_order j)) 0 54)
  taken_is =
      sym (value_bits 54 taken (moved_lt 54 moves p 0 tt (lit< tt)))
      ∙ ap value (sym (cut_get_or false (bits 54 taken)) ∙ cut_ext (carried 54 taken) (λ j. carried 56 p (place_of default_order j)) 0 54 (λ j l h. bit_taken j h))
