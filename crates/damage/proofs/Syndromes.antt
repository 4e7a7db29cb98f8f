-- No correctable frame shows a syndrome that erases, in any order: its word A no even one, its word B not the spare's.
-- Assumes nothing.
use mathlib.Core.Path.{◌≡◌, refl, ap, ◌∙◌}
use mathlib.Core.Bool.{Bool, false}
use mathlib.Core.List.{List}
use Prim.Native.Nat.{ℕ, ◌+◌, ◌≤◌}
use native.Mathlib.Omega.{arith}
use lib.Dec.{lit≤}
use lib.ListN.{length}
use Rattle.bits.specs.Bits.{◌⊕◌, ones, cut}
use Rattle.bits.proofs.Cut.{cut_length, cut_ext}
use Rattle.hamming.specs.Word.{data_bits, encode, syndrome, erases}
use Rattle.hamming.proofs.Erasures.{one_flip_syndrome}
use Rattle.order.specs.Order.{Order, logical_bit}
use Rattle.order.specs.Fields.{word_a, word_b}
use Rattle.order.proofs.Frames.{received_bit}
use Rattle.frame.specs.Layout.{data_a, data_b, words, others, unvoiced_words, logical, logical_of}
use Rattle.sets.specs.declared.Indices.{Indices}
use Rattle.sets.specs.declared.ParameterSet.TheVariants.{Unvoiced}
use Rattle.bursts.specs.Flips.{logical_flips, Correctable}
use Rattle.damage.proofs.Repair.{damaged}
use Rattle.damage.proofs.AnyOrder.{arrived}

module _ (ord : List ℕ) (o : Order ord) (x : Indices) (sync : Bool) (fl : ℕ → Bool) where
  -- the logical bits of the frame as it arrives, as they were sent, and their flips
  abbrev pub got : ℕ → Bool
  got = logical_bit ord (arrived ord (Unvoiced x) sync fl)

  abbrev sent : ℕ → Bool
  sent = logical_of (Unvoiced x) sync

  abbrev flips : ℕ → Bool
  flips = logical_flips ord fl

  -- the word of n bits from i on, sent with the data d and with at most one flip, shows no syndrome that erases
  shows_none : (n i : ℕ) → 6 ≤ n → n ≤ 8 → i + n ≤ 54 → (d : List Bool) → length d ≡ data_bits n
      → cut (damaged sent flips) i n ≡ encode n d ⊕ cut flips i n → ones (cut flips i n) ≤ 1 → erases n (syndrome n (cut got i n)) ≡ false
  shows_none n i l m h d hd e k =
      ap (λ (w : List Bool). erases n (syndrome n w)) (cut_ext got (damaged sent flips) i n (λ j a b. received_bit ord o sent fl j (omega arith)) ∙ e)
      ∙ one_flip_syndrome n l m d (cut flips i n) hd (cut_length flips i n) k

  module _ (k : Correctable flips) where
    pub a_shows_none : erases 8 (syndrome 8 (word_a got)) ≡ false
    unfolding words others unvoiced_words logical
    a_shows_none = shows_none 8 0 (lit≤ tt) (lit≤ tt) (lit≤ tt) (data_a x) refl refl k.a

    pub b_shows_none : erases 6 (syndrome 6 (word_b got)) ≡ false
    unfolding words others unvoiced_words logical
    b_shows_none = shows_none 6 8 (lit≤ tt) (lit≤ tt) (lit≤ tt) (data_b x) refl refl k.b
