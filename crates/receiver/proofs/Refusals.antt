-- Which calls are refused, and what the others give.
-- Assumes nothing.
use mathlib.Core.Path.{◌≡◌, refl, sym, ap, ◌∙◌, subst}
use mathlib.Core.Bool.{Bool, true, false, not, cond}
use mathlib.Core.List.{List, [], ◌∷◌, ◌++◌}
use Prim.Native.Nat.{ℕ}
use lib.Dec.{T}
use Rattle.std.specs.Prelude.{Option, None, Some}
use Rattle.bits.proofs.Tests.{true_T}
use Rattle.refusal.specs.Refusals.{Table, first_refusal}
use Rattle.refusal.specs.declared.Refusal.{Refusal}
use Rattle.refusal.specs.declared.Refusal.TheVariants.{InvalidRecord}
use Rattle.refusal.proofs.Refusals.{first_append, append_none}
use Rattle.order.specs.Order.{logical_bit, frame_table, frame_refusal}
use Rattle.reading.specs.Reading.{read}
use Rattle.records.specs.Records.{valid}
use Rattle.receiver.specs.Steps.{step}
use Rattle.receiver.specs.Receiving.{record_table, receive_refusal, receive_unless, receive}
use Rattle.records.specs.declared.Record.{Record}
use Rattle.receiver.specs.declared.Received.{Received}

-- where the first of two tables refuses nothing, the second decides
pub passes : (rows others : Table) → first_refusal rows ≡ None → first_refusal (rows ++ others) ≡ first_refusal others
passes [] others e = refl
passes (row ∷ rows) others e = go row.0 (passes rows others) e
  where
    go : (b : Bool) → (first_refusal rows ≡ None → first_refusal (rows ++ others) ≡ first_refusal others) → cond b (Some row.1) (first_refusal rows) ≡ None
        → cond b (Some row.1) (first_refusal (rows ++ others)) ≡ first_refusal others
    go true more e = cc
    go false more e = more e

-- a record is refused where it is not valid, and nowhere else
pub record_decides : (r : Record) (b : Bool) → valid r ≡ b → first_refusal (record_table r) ≡ cond (not b) (Some InvalidRecord) None
record_decides r b v = ap (λ (t : Bool). first_refusal ((not t, InvalidRecord) ∷ [])) v

pub record_taken_only : (r : Record) → first_refusal (record_table r) ≡ None → T (valid r)
record_taken_only r e = go (valid r) refl
  where
    go : (b : Bool) → valid r ≡ b → T (valid r)
    go true v = subst T (sym v) tt
    go false v = let f = record_decides r false v in cc

module _ (ord : List ℕ) (r : Record) (bytes : List ℕ) where
  -- a record that is not valid is refused
  pub record_refused : frame_refusal ord bytes ≡ None → valid r ≡ false → receive_refusal ord r bytes ≡ Some InvalidRecord
  record_refused e v = passes (frame_table ord bytes) (record_table r) e ∙ record_decides r false v

  -- a frame that is taken and a valid record are not refused
  pub not_refused : frame_refusal ord bytes ≡ None → T (valid r) → receive_refusal ord r bytes ≡ None
  not_refused e v = passes (frame_table ord bytes) (record_table r) e ∙ record_decides r true (true_T (valid r) v)

  -- where the frame is refused, so is the call, alike
  pub frame_refused : (f : Refusal) → frame_refusal ord bytes ≡ Some f → receive_refusal ord r bytes ≡ Some f
  frame_refused f e = first_append (frame_table ord bytes) (record_table r) f e

  -- no others are let through
  pub not_refused_only : receive_refusal ord r bytes ≡ None → (frame_refusal ord bytes ≡ None) × T (valid r)
  not_refused_only e =
      let f = append_none (frame_table ord bytes) (record_table r) e in
      (f, record_taken_only r (sym (passes (frame_table ord bytes) (record_table r) f) ∙ e))

  -- the definition. No other law opens it, so that a wrong one is refused here, and soon
  pub receive_is : receive ord r bytes ≡ receive_unless (receive_refusal ord r bytes) ord r bytes
  unfolding receive
  receive_is = refl

  -- what a call gives by its refusal
  pub receive_by : (n : Option Refusal) → receive_refusal ord r bytes ≡ n → receive ord r bytes ≡ receive_unless n ord r bytes
  receive_by n e = receive_is ∙ ap (λ (m : Option Refusal). receive_unless m ord r bytes) e

  -- a call that is not refused takes one step by what the bits are read as
  pub receive_taken : receive_refusal ord r bytes ≡ None → receive ord r bytes ≡ step r (logical_bit ord bytes 53) (read (logical_bit ord bytes))
  receive_taken e = receive_by None e

  -- a refused call leaves the record
  pub receive_refused : (f : Refusal) → receive_refusal ord r bytes ≡ Some f → (receive ord r bytes).next ≡ r
  receive_refused f e = ap (λ (x : Received). x.next) (receive_by (Some f) e)
