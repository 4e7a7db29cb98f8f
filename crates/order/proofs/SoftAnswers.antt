-- What a call that takes a frame's logical bits with confidences owes in each of its cases, by what was taken without them.
-- Assumes nothing.
use mathlib.Core.Path.{◌≡◌, sym, ap, ap₂, ◌∙◌}
use mathlib.Core.Bool.{Bool, true, false, not}
use mathlib.Core.List.{List, [], ◌∷◌, ◌++◌}
use Prim.Native.Nat.{ℕ}
use lib.Dec.{eqb}
use lib.ListN.{length}
use borrow.Author.Tests.{eq-eqb, ne_eqb}
use Rattle.bits.specs.Bits.{ones, cut}
use Rattle.std.specs.Prelude.{Option, None, Some, Ok, Err}
use Rattle.refusal.specs.Refusals.{first_refusal, unless}
use Rattle.refusal.specs.declared.Refusal.{Refusal}
use Rattle.refusal.specs.declared.Refusal.TheVariants.{FrameLength, PaddingBits, InvalidOrder, ConfidenceCount}
use Rattle.refusal.proofs.Refusals.{first_append}
use Rattle.bits.proofs.Tests.{true_T}
use Rattle.order.specs.Order.{is_order, frame_table}
use Rattle.order.specs.Taking.{bits_answer}
use Rattle.order.specs.SoftTaking.{confidence_of, confidence_table, taken_bits, soft_bits}
use Rattle.order.proofs.Orders.{is_order_lem}
use Rattle.order.proofs.Refusals.{frame_taken_only}
use Rattle.order.proofs.Answers.{bits_taken, bits_refused}

module _ (ord bytes : List ℕ) where
  -- they are taken only in an order
  taken_order : (n : ℕ) → bits_answer ord bytes ≡ Ok n → is_order ord ≡ true
  taken_order n e = true_T (is_order ord) (is_order_lem ord (frame_taken_only ord bytes (bits_taken ord bytes n e).0).order)

  module _ (confidences : List ℕ) where
    -- the answer by the number of the refusal
    owes : (n : Option Refusal) → first_refusal (frame_table ord bytes ++ confidence_table confidences) ≡ n
        → unless n (taken_bits ord bytes confidences) ≡ soft_bits ord bytes confidences
    unfolding soft_bits
    owes n e = ap (λ (m : Option Refusal). unless m (taken_bits ord bytes confidences)) (sym e)

    -- a frame that is refused
    pub frame_owes : (f : Refusal) → bits_answer ord bytes ≡ Err f → Err f ≡ soft_bits ord bytes confidences
    frame_owes f e = owes (Some f) (first_append (frame_table ord bytes) (confidence_table confidences) f (bits_refused ord bytes f e))

    module _ (n : ℕ) (e : bits_answer ord bytes ≡ Ok n) where
      -- one that is taken: the number of the confidences decides
      taken_decides : (b : Bool) → eqb (length confidences) 54 ≡ b
          → first_refusal (frame_table ord bytes ++ confidence_table confidences) ≡ first_refusal ((not b, ConfidenceCount) ∷ [])
      taken_decides b s =
          let t = frame_taken_only ord bytes (bits_taken ord bytes n e).0 in
          let l = eq-eqb (length bytes) 7 t.size in
          let f = taken_order n e in
          let p = t.clear in
          (λ i. first_refusal ((not (l i), FrameLength) ∷ (not (f i), InvalidOrder) ∷ (not (eqb (ones (p i)) 0), PaddingBits) ∷ (not (s i), ConfidenceCount) ∷ []))

      -- other than 54
      pub count_owes : (length confidences ≡ 54 → ⊥) → Err ConfidenceCount ≡ soft_bits ord bytes confidences
      count_owes h = owes (Some ConfidenceCount) (taken_decides false (ne_eqb (length confidences) 54 h))

      -- 54, found in the order's list
      pub soft_owes : length confidences ≡ 54 → (numbers lent found : List ℕ) → numbers ≡ ord → lent ≡ confidences → found ≡ cut (confidence_of numbers lent) 0 54
          → Ok (record { bits = n; confidences = found }) ≡ soft_bits ord bytes confidences
      soft_owes h numbers lent found o l q =
          ap₂ (λ (k : ℕ) (xs : List ℕ). Ok (record { bits = k; confidences = xs })) (bits_taken ord bytes n e).1 (q ∙ ap₂ (λ (xs ys : List ℕ). cut (confidence_of xs ys) 0 54) o l)
          ∙ owes None (taken_decides true (eq-eqb (length confidences) 54 h))
