-- A frame's parts, one after the other, are all its 54 logical bits, each once.
-- Assumes nothing.
use mathlib.Core.Path.{◌≡◌, refl}
use mathlib.Core.Bool.{Bool}
use mathlib.Core.List.{[], ◌∷◌, ◌++◌}
use Prim.Native.Nat.{ℕ}
use Rattle.bits.specs.Bits.{cut}
use Rattle.order.specs.Fields.{word_a, word_b, word_c, word_d, pitch_bits, l2_bits, l3_bits, l4_bits, sync_bit}

pub fields_all : (g : ℕ → Bool)
    → word_a g ++ word_b g ++ word_c g ++ word_d g ++ pitch_bits g ++ l2_bits g ++ l3_bits g ++ l4_bits g ++ sync_bit g ∷ [] ≡ cut g 0 54
fields_all g = refl
