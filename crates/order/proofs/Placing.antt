-- Places filled one after the other in any order, and what a call that places bits owes in each of its cases.
-- Assumes nothing.
use mathlib.Core.Path.{◌≡◌, refl, sym, ap, ◌∙◌}
use mathlib.Core.Bool.{Bool, true, false, not}
use mathlib.Core.List.{List, [], ◌∷◌}
use Prim.Native.Nat.{ℕ, suc, ◌+◌, ◌*◌, ◌-◌, ◌/◌, ◌%◌, ◌^◌, ◌<◌}
use native.Mathlib.Nat.{mod-lt, zero-add, add-zero}
use native.Mathlib.Omega.{arith}
use lib.Dec.{lit<}
use lib.ListN.{get_or}
use Rattle.bits.specs.Bits.{bit_num, value, bit, cut, carried}
use Rattle.std.specs.Prelude.{Ok, Err}
use Rattle.refusal.specs.Refusals.{first_refusal, unless}
use Rattle.refusal.specs.declared.Refusal.TheVariants.{InvalidOrder}
use Rattle.bits.proofs.Bitwise.{bit_up}
use Rattle.bits.proofs.Digits.{bit_is, bits_at}
use Rattle.bits.proofs.Numbers.{bit_more, value_more, carried_back}
use Rattle.order.specs.Order.{is_order, placed, byte_of, frame_of}
use Rattle.order.specs.Placing.{placed_bits}
use Rattle.order.proofs.Bytes.{bytes_ext}
use Rattle.order.proofs.Frames.{placed_below}

-- logical bit j, brought to the top of 64 bits by two shifts and taken there
named_bit : (w j : ℕ) → j < 54 → w * 2 ^ 10 % 2 ^ 64 * 2 ^ j % 2 ^ 64 / 2 ^ 63 ≡ bit_num (carried 54 w j)
named_bit w j h =
    let x : ℕ = w * 2 ^ 10 % 2 ^ 64 * 2 ^ j % 2 ^ 64 in
    let small : x < 2 ^ 64 = mod-lt (w * 2 ^ 10 % 2 ^ 64 * 2 ^ j) (lit< tt) in
    let top : x / 2 ^ 63 ≡ x / 2 ^ 63 % 2 = omega (arith, small) in
    let e : 63 - j - 10 ≡ 54 - suc j = omega arith in
    top
    ∙ sym (bit_is 63 x)
    ∙ ap bit_num (bit_up 64 63 j (w * 2 ^ 10 % 2 ^ 64) (lit< tt) (omega arith)
    ∙ bit_up 64 (63 - j) 10 w (omega arith) (omega arith)
    ∙ ap (λ (k : ℕ). bit k w) e
    ∙ sym (bits_at 54 j w h))

module _ (ord : List ℕ) (w : ℕ) where
  -- one place more
  pub place_more : (t x : ℕ) → t < 54 → get_or ord t 0 < 54 → x ≡ value (cut (placed ord (carried 54 w)) 0 t)
      → x * 2 + w * 2 ^ 10 % 2 ^ 64 * 2 ^ get_or ord t 0 % 2 ^ 64 / 2 ^ 63 ≡ value (cut (placed ord (carried 54 w)) 0 (t + 1))
  place_more t x h l e =
      bit_more (placed ord (carried 54 w)) 0 t x (w * 2 ^ 10 % 2 ^ 64 * 2 ^ get_or ord t 0 % 2 ^ 64 / 2 ^ 63) e
      (named_bit w (get_or ord t 0) l ∙ ap bit_num (sym (placed_below ord (carried 54 w) t h) ∙ ap (placed ord (carried 54 w)) (sym (zero-add t))))

  -- and the two past the last, which are 0
  pub places_all : (x : ℕ) → x ≡ value (cut (placed ord (carried 54 w)) 0 54) → x * 4 ≡ value (cut (placed ord (carried 54 w)) 0 56)
  places_all x e = sym (add-zero (x * 4)) ∙ value_more (placed ord (carried 54 w)) 0 54 2 x 0 e refl

module _ (ord : List ℕ) (g : ℕ → Bool) where
  -- what is owed by the test of the order
  owes : (b : Bool) → is_order ord ≡ b → unless (first_refusal ((not b, InvalidOrder) ∷ [])) (frame_of ord g) ≡ placed_bits ord g
  unfolding placed_bits
  owes b e = sym (ap (λ (c : Bool). unless (first_refusal ((not c, InvalidOrder) ∷ [])) (frame_of ord g)) e)

  -- a list that is no order
  pub none_owes : is_order ord ≡ false → Err InvalidOrder ≡ placed_bits ord g
  none_owes e = owes false e

  -- the frame, from the number of its places
  pub frame_owes : is_order ord ≡ true → (bytes : List ℕ) (x : ℕ) → bytes ≡ cut (byte_of (carried 56 x)) 0 7 → x ≡ value (cut (placed ord g) 0 56)
      → Ok bytes ≡ placed_bits ord g
  unfolding frame_of
  frame_owes o bytes x e f =
      ap Ok (e ∙ bytes_ext (carried 56 x) (placed ord g) (λ t h. carried_back 56 (placed ord g) x t f h)) ∙ owes true o
