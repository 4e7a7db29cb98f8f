-- What packing the bytes of set k owes: they are those of no set, or the set in them is packed into the tail of the output.
-- Assumes nothing.
use mathlib.Core.Path.{◌≡◌, refl, sym, ap, ap₂, ◌∙◌}
use mathlib.Core.Bool.{Bool, true, false, not, ◌&&◌, cond}
use mathlib.Core.List.{List, ◌++◌}
use Prim.Native.Nat.{ℕ, suc, ◌+◌, ◌-◌, ◌*◌, ◌≤◌}
use native.Mathlib.Omega.{arith}
use lib.ListN.{length, take, drop, length-drop, take-append-drop}
use lib.Seq.{drop-drop}
use borrow.Rule.Slice.PartMut.{mid_of, put_mid}
use Rattle.std.specs.Prelude.{Result, Ok, Err}
use Rattle.refusal.specs.declared.Refusal.{Refusal}
use Rattle.refusal.specs.declared.Refusal.TheVariants.{OutOfRange, InvalidOrder}
use Rattle.order.specs.Order.{is_order}
use Rattle.sets.specs.Sets.{sendable}
use Rattle.sets.specs.declared.ParameterSet.{ParameterSet}
use Rattle.frame.specs.Layout.{frame}
use Rattle.frame.specs.Packing.{set_refusal, pack_answer, pack_writes}
use Rattle.frame.proofs.Answers.{tested_owes}
use Rattle.set_bytes.specs.SetBytes.{set_in, read_answer}
use Rattle.set_frames.specs.Sending.{taken, frame_of, bytes_refusal, set_answer, set_writes}
use Rattle.set_bytes.proofs.SetBytes.{answer_is as read_answer_is, answer_taken, answer_refused}
use Rattle.set_frames.proofs.Tails.{tail_is, tail_back}

module _ (ord bytes : List ℕ) (sync : Bool) (k : ℕ) (out : List ℕ) where
  -- what a call answers and leaves
  abbrev Owed : Result Bool Refusal → List ℕ → Type 0
  Owed answer after = (answer ≡ set_answer ord bytes sync) × (after ≡ set_writes ord bytes sync k out)

  -- by whether the bytes are taken
  pub taken_owes : (b : Bool) → taken ord bytes ≡ b
      → Owed (cond b (Ok (not sync)) (Err (bytes_refusal ord bytes))) (cond b (take (7 * k) out ++ (frame_of ord bytes sync ++ drop (7 * suc k) out)) out)
  unfolding set_answer set_writes
  taken_owes b e = (
    ap (λ (t : Bool). cond t (Ok (not sync)) (Err (bytes_refusal ord bytes))) (sym e),
    ap (λ (t : Bool). cond t (take (7 * k) out ++ (frame_of ord bytes sync ++ drop (7 * suc k) out)) out) (sym e),
  )

  -- what reading them answers
  module _ (x : Result ParameterSet Refusal) (r : x ≡ read_answer bytes) where
    -- they are those of no set
    pub form_owes : (f : Refusal) → x ≡ Err f → Owed (Err f) out
    unfolding taken
    form_owes f e =
        let none = answer_refused bytes f (sym r ∙ e) in
        let same : f ≡ OutOfRange = cc (r, e, read_answer_is bytes false none) in
        let o = taken_owes false (ap (λ (b : Bool). b && is_order ord && sendable (set_in bytes)) none) in
        (ap Err same ∙ ap (λ (b : Bool). Err (cond b (set_refusal ord) OutOfRange)) (sym none) ∙ o.0, o.1)

    -- they are those of a set, which is packed into the tail
    module _ (set : ParameterSet) (e : x ≡ Ok set) (room : 7 * suc k ≤ length out) (answer : Result Bool Refusal) (ys : List ℕ)
        (p : let lent = mid_of (7 * k) (length out - 7 * k) out in (answer ≡ pack_answer ord set sync (length lent)) × (ys ≡ pack_writes ord set sync lent)) where
      abbrev tail : List ℕ
      tail = drop (7 * k) out

      tail_room : 7 ≤ length tail
      tail_room = omega (arith, length-drop (7 * k) out)

      set_is : set_in bytes ≡ set
      set_is = (answer_taken bytes set (sym r ∙ e)).1

      taken_is : taken ord bytes ≡ is_order ord && sendable set
      unfolding taken
      taken_is =
          ap (λ (f : Bool). f && is_order ord && sendable (set_in bytes)) (answer_taken bytes set (sym r ∙ e)).0
          ∙ ap (λ (s : ParameterSet). is_order ord && sendable s) set_is

      answer_is : answer ≡ pack_answer ord set sync (length tail)
      answer_is = p.0 ∙ ap (λ (l : List ℕ). pack_answer ord set sync (length l)) (tail_is (7 * k) out)

      after_is : put_mid (7 * k) (length out - 7 * k) out ys ≡ take (7 * k) out ++ pack_writes ord set sync tail
      after_is = tail_back (7 * k) out ys ∙ ap (λ (l : List ℕ). take (7 * k) out ++ l) (p.1 ∙ ap (pack_writes ord set sync) (tail_is (7 * k) out))

      -- frame k and what lies past it
      frame_is : frame ord set sync ++ drop 7 tail ≡ frame_of ord bytes sync ++ drop (7 * suc k) out
      frame_is =
          let n : 7 * k + 7 ≡ 7 * suc k = omega arith in
          let rest : drop 7 tail ≡ drop (7 * suc k) out = drop-drop 7 (7 * k) out ∙ ap (λ (n : ℕ). drop n out) n in
          ap₂ (λ (s : ParameterSet) (l : List ℕ). frame ord s sync ++ l) (sym set_is) rest

      abbrev after : List ℕ
      after = put_mid (7 * k) (length out - 7 * k) out ys

      -- it is refused, by whether the list is an order
      refused_owes : (a : Bool) → is_order ord ≡ a → taken ord bytes ≡ false
          → (Err (cond a OutOfRange InvalidOrder) ≡ pack_answer ord set sync (length tail)) × (tail ≡ pack_writes ord set sync tail) → Owed answer after
      refused_owes a f t q =
          let o = taken_owes false t in
          let found = (answer_taken bytes set (sym r ∙ e)).0 in (
            answer_is ∙ sym q.0 ∙ (λ i. Err (cond (sym found i) (cond (sym f i) OutOfRange InvalidOrder) OutOfRange)) ∙ o.0,
            after_is ∙ ap (λ (l : List ℕ). take (7 * k) out ++ l) (sym q.1) ∙ take-append-drop (7 * k) out ∙ o.1,
          )

      pub pack_owes : Owed answer after
      pack_owes = go (is_order ord) (sendable set) refl refl
        where
          go : (a b : Bool) → is_order ord ≡ a → sendable set ≡ b → Owed answer after
          go true true f t =
              let o = taken_owes true (taken_is ∙ λ i. f i && t i) in
              let q = tested_owes ord set sync tail tail_room true true f t in
              (answer_is ∙ sym q.0 ∙ o.0, after_is ∙ ap (λ (l : List ℕ). take (7 * k) out ++ l) (sym q.1 ∙ frame_is) ∙ o.1)
          go true false f t = refused_owes true f (taken_is ∙ λ i. f i && t i) (tested_owes ord set sync tail tail_room true false f t)
          go false b f t = refused_owes false f (taken_is ∙ λ i. f i && t i) (tested_owes ord set sync tail tail_room false b f t)
