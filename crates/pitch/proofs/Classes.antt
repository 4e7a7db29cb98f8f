-- The class of a pitch code by its count of ones, which is the language's own count.
-- Assumes nothing.
use mathlib.Core.Path.{◌≡◌, refl, ap, ◌∙◌}
use mathlib.Core.Bool.{Bool}
use mathlib.Core.List.{List}
use Prim.Native.Nat.{ℕ, zero, suc, ◌%◌, ◌≤◌, ◌<◌}
use native.Mathlib.Nat.{mod-lt}
use native.Mathlib.Omega.{arith}
use lib.Dec.{lit<}
use lib.Count as Count
use Rattle.bits.specs.Bits.{ones, value, bits}
use Rattle.bits.proofs.Tests.{equal_at}
use Rattle.bits.proofs.Digits.{bits_mod}
use Rattle.pitch.specs.Pitch.{index, by_ones, class_of}
use Rattle.pitch.specs.declared.PitchClass.TheVariants.{Unvoiced, Erased, Voiced}

-- the language's count of ones of a number below 128 is that of its seven bits
pub count_is : (c : ℕ) → c < 128 → Count.ones c ≡ ones (bits 7 c)
unfolding Count.ones Count.ones_in
count_is = equal_at 128 Count.ones (λ c. ones (bits 7 c)) tt

-- so is the count of the low seven bits of any number
pub count_low_is : (c : ℕ) → Count.ones (c % 128) ≡ ones (bits 7 c)
count_low_is c = count_is (c % 128) (mod-lt c (lit< tt)) ∙ ap ones (bits_mod 7 c)

-- fewer than two ones: unvoiced
pub class_few : (p : List Bool) → ones p < 2 → class_of p ≡ Unvoiced
unfolding class_of
class_few p h = go (ones p) h
  where
    go : (n : ℕ) → n < 2 → by_ones n (index (value p)) ≡ Unvoiced
    go zero h = refl
    go (suc zero) h = refl
    go (suc (suc n)) h = absurd (omega arith)

-- two ones: erased
pub class_two : (p : List Bool) → 2 ≤ ones p → ones p < 3 → class_of p ≡ Erased
unfolding class_of
class_two p l h = go (ones p) l h
  where
    go : (n : ℕ) → 2 ≤ n → n < 3 → by_ones n (index (value p)) ≡ Erased
    go zero l h = absurd (omega arith)
    go (suc zero) l h = absurd (omega arith)
    go (suc (suc zero)) l h = refl
    go (suc (suc (suc n))) l h = absurd (omega arith)

-- three ones or more: voiced, with the index
pub class_many : (p : List Bool) → 3 ≤ ones p → class_of p ≡ Voiced (index (value p))
unfolding class_of
class_many p l = go (ones p) l
  where
    go : (n : ℕ) → 3 ≤ n → by_ones n (index (value p)) ≡ Voiced (index (value p))
    go zero l = absurd (omega arith)
    go (suc zero) l = absurd (omega arith)
    go (suc (suc zero)) l = absurd (omega arith)
    go (suc (suc (suc n))) l = refl
