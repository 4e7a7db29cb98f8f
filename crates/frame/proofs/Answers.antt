-- What a packing call owes in each of its cases, and that the frame is that of the 54 bits carried in one number.
-- Assumes nothing.
use mathlib.Core.Path.{◌≡◌, refl, sym, ap, ◌∙◌, subst}
use mathlib.Core.Bool.{Bool, true, false, not, cond}
use mathlib.Core.List.{List, [], ◌∷◌, ◌++◌}
use Prim.Native.Nat.{ℕ, ◌≤◌, ◌<◌}
use lib.ListN.{length, get_or, drop}
use borrow.Author.Tests.{lt-ltb, le-ltb}
use Rattle.bits.specs.Bits.{value, bits, carried}
use Rattle.std.specs.Prelude.{Option, Some, Result, Ok, Err}
use Rattle.refusal.specs.Refusals.{first_refusal, unless}
use Rattle.refusal.specs.declared.Refusal.{Refusal}
use Rattle.refusal.specs.declared.Refusal.TheVariants.{ShortOutput, OutOfRange, InvalidOrder}
use Rattle.bits.proofs.Digits.{bits_value}
use Rattle.order.specs.Order.{is_order, frame_of}
use Rattle.order.specs.Placing.{placed_bits}
use Rattle.sets.specs.Sets.{sendable}
use Rattle.frame.specs.Layout.{words, others, unvoiced_words, voiced_words, logical, frame}
use Rattle.bits.specs.Lists.{written_unless}
use Rattle.frame.specs.Packing.{pack_refusal, pack_answer, pack_writes, set_refusal}
use Rattle.sets.specs.declared.ParameterSet.{ParameterSet}
use Rattle.sets.specs.declared.ParameterSet.TheVariants.{Unvoiced, Voiced}

-- a set has 54 logical bits
logical_length : (set : ParameterSet) (sync : Bool) → length (logical set sync) ≡ 54
unfolding words others unvoiced_words voiced_words logical
logical_length (Unvoiced x) sync = refl
logical_length (Voiced x v) sync = refl

-- the frame of the number that they stand for is the frame of the set
pub number_frame : (ord : List ℕ) (set : ParameterSet) (sync : Bool) (w : ℕ) → w ≡ value (logical set sync) → frame_of ord (carried 54 w) ≡ frame ord set sync
number_frame ord set sync w e =
    ap (λ (l : List Bool). frame_of ord (λ j. get_or l j false)) (ap (bits 54) e ∙ bits_value 54 (logical set sync) (logical_length set sync))

-- what a call answers and leaves
abbrev Owed : List ℕ → ParameterSet → Bool → List ℕ → Result Bool Refusal → List ℕ → Type 0
Owed ord set sync out r after = (r ≡ pack_answer ord set sync (length out)) × (after ≡ pack_writes ord set sync out)

module _ (ord : List ℕ) (set : ParameterSet) (sync : Bool) (out : List ℕ) where
  owes : (n : Option Refusal) → pack_refusal ord set (length out) ≡ n → Owed ord set sync out (unless n (not sync)) (written_unless n 7 (frame ord set sync) out)
  unfolding pack_answer pack_writes
  owes n e = (ap (λ (m : Option Refusal). unless m (not sync)) (sym e), ap (λ (m : Option Refusal). written_unless m 7 (frame ord set sync) out) (sym e))

  -- an output that is too short
  pub short_owes : length out < 7 → Owed ord set sync out (Err ShortOutput) out
  short_owes h = owes (Some ShortOutput) (rw (lt-ltb (length out) 7 h) refl)

  module _ (h : 7 ≤ length out) where
    -- the order and the set decide
    set_decides : (a b : Bool) → is_order ord ≡ a → sendable set ≡ b
        → pack_refusal ord set (length out) ≡ first_refusal ((not a, InvalidOrder) ∷ (not b, OutOfRange) ∷ [])
    set_decides a b e f = rw (le-ltb (length out) 7 h) (λ i. first_refusal ((not (e i), InvalidOrder) ∷ (not (f i), OutOfRange) ∷ []))

    -- what is answered and left by these tests
    pub tested_owes : (a b : Bool) → is_order ord ≡ a → sendable set ≡ b
        → let n = first_refusal ((not a, InvalidOrder) ∷ (not b, OutOfRange) ∷ []) in Owed ord set sync out (unless n (not sync)) (written_unless n 7 (frame ord set sync) out)
    tested_owes a b e f = owes (first_refusal ((not a, InvalidOrder) ∷ (not b, OutOfRange) ∷ [])) (set_decides a b e f)

    -- a set that is not taken: the order goes before it
    pub set_owes : sendable set ≡ false → Owed ord set sync out (Err (set_refusal ord)) out
    set_owes f = go (is_order ord) refl
      where
        go : (a : Bool) → is_order ord ≡ a → Owed ord set sync out (Err (cond a OutOfRange InvalidOrder)) out
        go true o = tested_owes true false o f
        go false o = tested_owes false false o f

    -- one that is, and its bits placed or refused
    module _ (f : sendable set ≡ true) (g : ℕ → Bool) where
      -- a list that is no order
      pub order_owes : (r : Refusal) → placed_bits ord g ≡ Err r → Owed ord set sync out (Err r) out
      unfolding placed_bits
      order_owes r e = go (is_order ord) refl e
        where
          go : (a : Bool) → is_order ord ≡ a → unless (first_refusal ((not a, InvalidOrder) ∷ [])) (frame_of ord g) ≡ Err r → Owed ord set sync out (Err r) out
          go true o e = (cc, cc)
          go false o e =
              let same : InvalidOrder ≡ r = cc in
              subst (λ (x : Refusal). Owed ord set sync out (Err x) out) same (tested_owes false true o f)

      -- the frame written to the front
      pub packed_owes : (bytes : List ℕ) → placed_bits ord g ≡ Ok bytes → frame_of ord g ≡ frame ord set sync → (after : List ℕ) → after ≡ bytes ++ drop 7 out
          → Owed ord set sync out (Ok (not sync)) after
      unfolding placed_bits
      packed_owes bytes e b after c = go (is_order ord) refl e
        where
          go : (a : Bool) → is_order ord ≡ a → unless (first_refusal ((not a, InvalidOrder) ∷ [])) (frame_of ord g) ≡ Ok bytes → Owed ord set sync out (Ok (not sync)) after
          go true o e =
              let w = tested_owes true true o f in
              let same : frame_of ord g ≡ bytes = cc in
              (w.0, c ∙ ap (λ (x : List ℕ). x ++ drop 7 out) (sym same ∙ b) ∙ w.1)
          go false o e = (cc, cc)
