-- Bits of one number moved to another by shifts and masks: a test that antt computes says where each bit comes from.
-- Assumes nothing.
use mathlib.Core.Path.{◌≡◌, refl, ap, ap₂, ◌∙◌}
use mathlib.Core.Bool.{Bool, true, false, not, ◌&&◌, ◌||◌, cond}
use mathlib.Core.List.{List, [], ◌∷◌}
use Prim.Native.Nat.{ℕ, ◌+◌, ◌*◌, ◌-◌, ◌/◌, ◌%◌, ◌^◌, ◌<◌}
use native.Mathlib.Nat.{lt_of_le_of_lt}
use lib.Bits.{bit_and, bit_or, and_le_r, or_lt}
use lib.Dec.{T, eqb, eqb→eq, leb, leb→le, ltb, ltb→lt}
use Rattle.bits.specs.Bits.{bit}
use Rattle.bits.proofs.Bitwise.{bit_of_and, bit_of_or, bit_down, bit_up}
use Rattle.bits.proofs.Tests.{and_left, and_right}

-- a move: all bits go up, or down, by some places, and those that the mask names are taken
pub data Move : Type 0 where
  up : ℕ → ℕ → Move
  down : ℕ → ℕ → Move

abbrev pub mask_of : Move → ℕ
mask_of (up s m) = m
mask_of (down s m) = m

-- a number of 64 bits after a shift
abbrev pub shifted : Move → ℕ → ℕ
shifted (up s m) p = p * 2 ^ s % 2 ^ 64
shifted (down s m) p = p / 2 ^ s

-- what the moves take of a number, joined to what was taken before
abbrev pub moved : List Move → ℕ → ℕ → ℕ
moved [] p acc = acc
moved (x ∷ xs) p acc = moved xs p (bit_or acc (bit_and (shifted x p) (mask_of x)))

-- whether a move brings bit t to bit k
abbrev pub brings : Move → ℕ → ℕ → Bool
brings (up s m) k t = leb s k && eqb (k - s) t
brings (down s m) k t = eqb (s + k) t

-- whether bit k comes from bit t alone; `seen` where a move before has brought it
abbrev pub comes : List Move → ℕ → ℕ → Bool → Bool
comes [] k t seen = seen
comes (x ∷ xs) k t seen = cond (bit k (mask_of x)) (brings x k t && comes xs k t true) (comes xs k t seen)

brought : (x : Move) (k t p : ℕ) → k < 64 → T (brings x k t) → bit k (shifted x p) ≡ bit t p
brought (up s m) k t p h e =
    bit_up 64 k s p h (leb→le s k (and_left (leb s k) (eqb (k - s) t) e)) ∙ ap (λ (i : ℕ). bit i p) (eqb→eq (k - s) t (and_right (leb s k) (eqb (k - s) t) e))
brought (down s m) k t p h e = bit_down k s p ∙ ap (λ (i : ℕ). bit i p) (eqb→eq (s + k) t e)

-- a bit that the mask names, and one that it does not
with_named : (s b : Bool) → ((s && b) || (b && true)) ≡ b
with_named true true = refl
with_named true false = refl
with_named false true = refl
with_named false false = refl

without_named : (s a : Bool) → (s || (a && false)) ≡ s
without_named true a = refl
without_named false true = refl
without_named false false = refl

all_seen_lem : (s b : Bool) → T s → (s && b) ≡ b
all_seen_lem true b t = refl
all_seen_lem false b t = absurd t

-- where the test passes, bit k of what is taken is bit t of the number
pub moved_bit : (xs : List Move) (k t p acc : ℕ) (seen : Bool) → k < 64 → T (comes xs k t seen) → bit k acc ≡ (seen && bit t p)
    → bit k (moved xs p acc) ≡ bit t p
moved_bit [] k t p acc seen h c e = e ∙ all_seen_lem seen (bit t p) c
moved_bit (x ∷ xs) k t p acc seen h c e = go (λ acc seen. moved_bit xs k t p acc seen h) (bit k (mask_of x)) refl c
  where
    joined : (b : Bool) → bit k (mask_of x) ≡ b → bit k (bit_or acc (bit_and (shifted x p) (mask_of x))) ≡ ((seen && bit t p) || (bit k (shifted x p) && b))
    joined b q = bit_of_or k acc (bit_and (shifted x p) (mask_of x)) ∙ ap₂ ◌||◌ e (bit_of_and k (shifted x p) (mask_of x) ∙ ap (λ (z : Bool). bit k (shifted x p) && z) q)

    go : ((acc : ℕ) (seen : Bool) → T (comes xs k t seen) → bit k acc ≡ (seen && bit t p) → bit k (moved xs p acc) ≡ bit t p)
        → (b : Bool) → bit k (mask_of x) ≡ b → T (cond b (brings x k t && comes xs k t true) (comes xs k t seen))
        → bit k (moved xs p (bit_or acc (bit_and (shifted x p) (mask_of x)))) ≡ bit t p
    go rest true q c =
        rest _ true (and_right (brings x k t) (comes xs k t true) c)
        (joined true q
        ∙ ap (λ (z : Bool). (seen && bit t p) || (z && true)) (brought x k t p h (and_left (brings x k t) (comes xs k t true) c))
        ∙ with_named seen (bit t p))
    go rest false q c = rest _ seen c (joined false q ∙ without_named (seen && bit t p) (bit k (shifted x p)))

-- whether no mask names bit k
abbrev pub unnamed : ℕ → List Move → Bool
unnamed k [] = true
unnamed k (x ∷ xs) = not (bit k (mask_of x)) && unnamed k xs

-- then it stays as it was
pub moved_stays : (k : ℕ) (xs : List Move) (p acc : ℕ) → T (unnamed k xs) → bit k (moved xs p acc) ≡ bit k acc
moved_stays k [] p acc t = refl
moved_stays k (x ∷ xs) p acc t =
    moved_stays k xs p (bit_or acc (bit_and (shifted x p) (mask_of x))) (and_right (not (bit k (mask_of x))) (unnamed k xs) t)
    ∙ bit_of_or k acc (bit_and (shifted x p) (mask_of x))
    ∙ ap (λ (b : Bool). bit k acc || b) (bit_of_and k (shifted x p) (mask_of x))
    ∙ go (bit k (mask_of x)) (and_left (not (bit k (mask_of x))) (unnamed k xs) t)
  where
    go : (b : Bool) → T (not b) → (bit k acc || (bit k (shifted x p) && b)) ≡ bit k acc
    go true n = absurd n
    go false n = without_named (bit k acc) (bit k (shifted x p))

-- whether all masks have at most w bits
abbrev pub below : ℕ → List Move → Bool
below w [] = true
below w (x ∷ xs) = ltb (mask_of x) (2 ^ w) && below w xs

-- then so has what is taken
pub moved_lt : (w : ℕ) (xs : List Move) (p acc : ℕ) → T (below w xs) → acc < 2 ^ w → moved xs p acc < 2 ^ w
moved_lt w [] p acc t h = h
moved_lt w (x ∷ xs) p acc t h =
    let m : mask_of x < 2 ^ w = ltb→lt (mask_of x) (2 ^ w) (and_left (ltb (mask_of x) (2 ^ w)) (below w xs) t) in
    moved_lt w xs p (bit_or acc (bit_and (shifted x p) (mask_of x))) (and_right (ltb (mask_of x) (2 ^ w)) (below w xs) t)
    (or_lt w acc (bit_and (shifted x p) (mask_of x)) h (lt_of_le_of_lt (and_le_r (shifted x p) (mask_of x)) m))
