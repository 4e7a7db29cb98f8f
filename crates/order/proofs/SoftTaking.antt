-- The confidences of logical bits, found one bit after the other or place after place: all of them are the sequence by logical bit.
-- Assumes nothing.
use mathlib.Core.Path.{◌≡◌, sym, ap, ◌∙◌}
use mathlib.Core.List.{List}
use Prim.Native.Nat.{ℕ, suc, ◌+◌, ◌*◌, ◌%◌, ◌<◌}
use native.Mathlib.Decide.{ℕ_discrete}
use native.Mathlib.Omega.{arith}
use lib.ListN.{length, get_or, set, length-set}
use lib.Seq.{get_or-set_same, get_or-set_other}
use Rattle.bits.specs.Bits.{cut}
use Rattle.bits.proofs.Cut.{cut_get_or, cut_ext}
use Rattle.order.specs.Order.{Order, place_of, default_order}
use Rattle.order.specs.SoftTaking.{confidence_of, PlaceConfidences}
use Rattle.order.proofs.DefaultOrder.{default_place}
use Rattle.order.proofs.Places.{entry_lt, entry_back, place_lt, place_back}

-- a list of 54 of which the first n entries are those of a sequence
pub record KnownTo (q : ℕ → ℕ) (n : ℕ) (found : List ℕ) : Type 0 where
  pub size : length found ≡ 54
  pub known : (j : ℕ) → j < n → get_or found j 0 ≡ q j

-- the place that an order gives a bit is the one at which it names it
pub place_confidences : PlaceConfidences
place_confidences ord o confidences t h = ap (λ (p : ℕ). get_or confidences p 0) (place_back ord o t h)

-- in the default order a bit's confidence is found by its product
pub default_confidence : (confidences : List ℕ) (j : ℕ) → j < 54 → get_or confidences (7 * j % 54) 0 ≡ confidence_of default_order confidences j
default_confidence confidences j h = ap (λ (t : ℕ). get_or confidences t 0) (sym (default_place j h))

module _ (q : ℕ → ℕ) (found : List ℕ) where
  -- one entry more is known
  pub known_more : (n m x : ℕ) → m ≡ suc n → n < 54 → x ≡ q n → KnownTo q n found → KnownTo q m (set found n x)
  known_more n m x e h p k = record { size = length-set found n x ∙ k.size; known = λ j l. go j l (ℕ_discrete j n) }
    where
      go : (j : ℕ) → j < m → Dec (j ≡ n) → get_or (set found n x) j 0 ≡ q j
      go j l (yes s) = rw s (get_or-set_same found n x 0 (omega (arith, k.size)) ∙ p)
      go j l (no d) = get_or-set_other found n j x 0 d ∙ k.known j (omega arith)

  -- all of them
  pub known_all : KnownTo q 54 found → found ≡ cut q 0 54
  known_all k =
      sym (cut_get_or 0 found)
      ∙ ap (cut (λ j. get_or found j 0) 0) k.size
      ∙ cut_ext (λ j. get_or found j 0) q 0 54 (λ j a b. k.known j (omega arith))

-- a list of 54 in which the bits of the first t places have their confidences
abbrev pub FilledTo : List ℕ → List ℕ → ℕ → List ℕ → Type 0
FilledTo ord confidences t found = (length found ≡ 54) × ((j : ℕ) → j < 54 → place_of ord j < t → get_or found j 0 ≡ confidence_of ord confidences j)

module _ (ord : List ℕ) (o : Order ord) (confidences : List ℕ) where
  -- one place more
  pub filled_more : (t : ℕ) (found : List ℕ) → t < 54 → FilledTo ord confidences t found
      → FilledTo ord confidences (t + 1) (set found (get_or ord t 0) (get_or confidences t 0))
  filled_more t found h f = (length-set found b x ∙ f.0, λ j l p. go j l p (ℕ_discrete j b))
    where
      b : ℕ
      b = get_or ord t 0

      x : ℕ
      x = get_or confidences t 0

      go : (j : ℕ) → j < 54 → place_of ord j < t + 1 → Dec (j ≡ b) → get_or (set found b x) j 0 ≡ confidence_of ord confidences j
      go j l p (yes s) = rw s (get_or-set_same found b x 0 (omega (arith, f.0, entry_lt ord o t h)) ∙ sym (place_confidences ord o confidences t h))
      go j l p (no d) = get_or-set_other found b j x 0 d ∙ f.1 j l (before (ℕ_discrete (place_of ord j) t))
        where
          before : Dec (place_of ord j ≡ t) → place_of ord j < t
          before (yes s) = absurd (d (sym (entry_back ord o j l) ∙ ap (λ (k : ℕ). get_or ord k 0) s))
          before (no q) = omega arith

  -- all of them
  pub filled_all : (found : List ℕ) → FilledTo ord confidences 54 found → found ≡ cut (confidence_of ord confidences) 0 54
  filled_all found f = known_all (confidence_of ord confidences) found (record { size = f.0; known = λ j l. f.1 j l (place_lt ord o j l) })
