-- A pitch code with at most one flip: the unvoiced code stays unvoiced and shows the flip; a voiced one is voiced or erased.
-- Assumes nothing.
use mathlib.Core.Path.{◌≡◌, refl}
use mathlib.Core.Bool.{Bool, true, false, ◌&&◌}
use mathlib.Core.List.{List}
use Prim.Native.Nat.{ℕ, ◌≤◌, ◌<◌}
use lib.Dec.{T, eqb, eqb→eq}
use lib.ListN.{length}
use Rattle.bits.specs.Bits.{◌⊕◌, ones, bits}
use Rattle.bits.proofs.Tests.{and_left, and_right, every_at}
use Rattle.bits.proofs.Patterns.{patterns, patterns_at}
use Rattle.pitch.specs.Pitch.{index, class_of, voiced_from, code_of, unvoiced_code}
use Rattle.pitch.specs.declared.PitchClass.{PitchClass}
use Rattle.pitch.specs.declared.PitchClass.TheVariants.{Unvoiced, Erased, Voiced}

-- a class is unvoiced
abbrev is_unvoiced : PitchClass → Bool
is_unvoiced Unvoiced = true
is_unvoiced Erased = false
is_unvoiced (Voiced i) = false

is_unvoiced_eq : (c : PitchClass) → T (is_unvoiced c) → c ≡ Unvoiced
is_unvoiced_eq Unvoiced t = refl
is_unvoiced_eq Erased t = absurd t
is_unvoiced_eq (Voiced i) t = absurd t

-- the unvoiced code with the flips e is unvoiced and has as many ones as there are flips
stays : List Bool → Bool
stays e = is_unvoiced (class_of (bits 7 unvoiced_code ⊕ e)) && eqb (ones (bits 7 unvoiced_code ⊕ e)) (ones e)

stays_at : (e : List Bool) → length e ≡ 7 → ones e ≤ 1 → T (stays e)
unfolding stays index class_of
stays_at = patterns_at 1 7 stays tt

-- the unvoiced code with at most one flip is unvoiced
pub unvoiced_stays : (e : List Bool) → length e ≡ 7 → ones e ≤ 1 → class_of (bits 7 unvoiced_code ⊕ e) ≡ Unvoiced
unfolding stays
unvoiced_stays e l h = is_unvoiced_eq _ (and_left (is_unvoiced (class_of (bits 7 unvoiced_code ⊕ e))) _ (stays_at e l h))

-- and has as many ones as flips
pub unvoiced_ones : (e : List Bool) → length e ≡ 7 → ones e ≤ 1 → ones (bits 7 unvoiced_code ⊕ e) ≡ ones e
unfolding stays
unvoiced_ones e l h = eqb→eq _ _ (and_right (is_unvoiced (class_of (bits 7 unvoiced_code ⊕ e))) _ (stays_at e l h))

-- voiced or erased
abbrev pub not_unvoiced : PitchClass → Bool
not_unvoiced Unvoiced = false
not_unvoiced Erased = true
not_unvoiced (Voiced i) = true

-- the code of index i with the flips e is not unvoiced
keeps : ℕ → List Bool → Bool
keeps i e = not_unvoiced (class_of (bits 7 (code_of i) ⊕ e))

-- a voiced code with at most one flip is voiced or erased
pub voiced_keeps : (i : ℕ) → i < 99 → (e : List Bool) → length e ≡ 7 → ones e ≤ 1 → T (not_unvoiced (class_of (bits 7 (code_of i) ⊕ e)))
unfolding keeps index class_of voiced_from code_of
voiced_keeps i h e l f = patterns_at 1 7 (keeps i) (every_at 99 (λ i. patterns 1 7 (keeps i)) tt i h) e l f
