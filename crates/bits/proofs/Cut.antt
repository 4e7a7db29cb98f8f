-- Cuts of a sequence of bits.
-- Assumes nothing.
use mathlib.Core.Path.{◌≡◌, refl, sym, ap, ap₂, ◌∙◌}
use mathlib.Core.List.{List, [], ◌∷◌, ◌++◌}
use Prim.Native.Nat.{ℕ, zero, suc, ◌+◌, ◌≤◌, ◌<◌}
use native.Mathlib.Nat.{not-suc-le-zero, le_of_suc-le-suc, add-zero, zero-add, suc-add}
use native.Mathlib.Omega.{arith}
use lib.ListN.{length, get_or, take, drop}
use lib.Seq.{drop-cons}
use Rattle.bits.specs.Bits.{cut}

-- a cut of n has n entries
pub cut_length : {A : Type 0} (g : ℕ → A) (i n : ℕ) → length (cut g i n) ≡ n
cut_length g i zero = refl
cut_length g i (suc n) = ap suc (cut_length g (suc i) n)

-- entry j of a cut from i is the sequence at i + j
pub cut_at : {A : Type 0} (d : A) (g : ℕ → A) (i n j : ℕ) → j < n → get_or (cut g i n) j d ≡ g (i + j)
cut_at d g i zero j h = absurd (not-suc-le-zero h)
cut_at d g i (suc n) zero h = ap g (sym (add-zero i))
cut_at d g i (suc n) (suc j) h = cut_at d g (suc i) n j (le_of_suc-le-suc h) ∙ ap g (omega arith)

-- sequences that agree on the cut have the same cut
pub cut_ext : {A : Type 0} (g h : ℕ → A) (i n : ℕ) → ((j : ℕ) → i ≤ j → j < i + n → g j ≡ h j) → cut g i n ≡ cut h i n
cut_ext g h i zero e = refl
cut_ext g h i (suc n) e =
    ap₂ (λ (x : _) (xs : List _). x ∷ xs) (e i (omega arith) (omega arith)) (cut_ext g h (suc i) n (λ j l m. e j (omega arith) (omega arith)))

-- two cuts that meet are one
pub cut_append : {A : Type 0} (g : ℕ → A) (i m n : ℕ) → cut g i (m + n) ≡ cut g i m ++ cut g (i + m) n
cut_append g i zero n = ap₂ (cut g) (sym (add-zero i)) (zero-add n)
cut_append g i (suc m) n =
    ap (cut g i) (suc-add m n) ∙ ap (λ (xs : List _). g i ∷ xs) (cut_append g (suc i) m n ∙ ap (λ (k : ℕ). cut g (suc i) m ++ cut g k n) (omega arith))

-- a list is the cut of its entries
pub cut_get_or : {A : Type 0} (d : A) (l : List A) → cut (λ j. get_or l j d) 0 (length l) ≡ l
cut_get_or d [] = refl
cut_get_or d (x ∷ l) = ap (λ (xs : List _). x ∷ xs) (shift (length l) 0 ∙ cut_get_or d l)
  where
    shift : (n i : ℕ) → cut (λ j. get_or (x ∷ l) j d) (suc i) n ≡ cut (λ j. get_or l j d) i n
    shift zero i = refl
    shift (suc n) i = ap (λ (xs : List _). get_or l i d ∷ xs) (shift n (suc i))

-- a cut that starts a places on is that of the sequence moved by a
pub cut_shift : {A : Type 0} (g : ℕ → A) (a i n : ℕ) → cut g (a + i) n ≡ cut (λ j. g (a + j)) i n
cut_shift g a i zero = refl
cut_shift g a i (suc n) = ap (λ (xs : List _). g (a + i) ∷ xs) (ap (λ (k : ℕ). cut g k n) (omega arith) ∙ cut_shift g a (suc i) n)

-- a part from one place later is a part of what comes one place later
pub cut_suc : {A : Type 0} (g : ℕ → A) (i n : ℕ) → cut g (suc i) n ≡ cut (λ j. g (suc j)) i n
cut_suc g i zero = refl
cut_suc g i (suc n) = ap (λ (xs : List _). g (suc i) ∷ xs) (cut_suc g (suc i) n)

-- a part of a list, entry by entry
pub cut_part : {A : Type 0} (d : A) (l : List A) (a n : ℕ) → a + n ≤ length l → cut (λ j. get_or l j d) a n ≡ take n (drop a l)
cut_part d l a zero h = refl
cut_part d l a (suc n) h =
    ap (λ (xs : List _). get_or l a d ∷ xs) (cut_part d l (suc a) n (omega arith)) ∙ sym (ap (take (suc n)) (drop-cons l a d (omega arith)))
