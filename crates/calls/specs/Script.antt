-- What demand 3 is given can be had, so that it is no empty claim: in every order any arguments of packing calls, any flips, any valid record, and any
-- receiving calls that are asked for, made in any of some ways, with refused ones in any order anywhere among the others.
use Rattle.std.specs.Prelude.{ℕ, zero, suc, ◌≡◌, Bool, List, [], ◌∷◌, map, length, Option, None}
use Rattle.refusal.specs.declared.Refusal.{Refusal}
use Rattle.bits.specs.Lists.{Every}
use Rattle.order.specs.Order.{frame_refusal}
use Rattle.frame.specs.Packing.{pack_refusal}
use Rattle.records.specs.declared.Record.{Record}
use Rattle.calls.specs.Model.{PackArguments, pack_kind, ReceiveArguments, receive_kind}
use Rattle.calls.specs.Calls.{PackCall, ReceiveCall, receive_call_refusal, unrefused}
use Rattle.calls.specs.Claim.{Session}

-- what is asked of a receiving call, by the way that it is made: to take the next frame that the channel hands on, or to be passed an order and a frame of
-- which one is refused
pub data Wish (Way : Type 0) : Type 0 where
  next : Way → Wish Way
  other : Way → ReceiveArguments → Wish Way

-- the refusal of packing by the arguments alone
abbrev pub arguments_refusal : PackArguments → Option Refusal
arguments_refusal x = pack_refusal x.order x.set (length x.lent)

module _ {Way : Type 0} where
  -- how many frames a script takes
  abbrev pub nexts : List (Wish Way) → ℕ
  nexts [] = zero
  nexts (next way ∷ script) = suc (nexts script)
  nexts (other way x ∷ script) = nexts script

  abbrev pub OtherRefused : Wish Way → Type 0
  OtherRefused (next way) = Unit
  OtherRefused (other way x) = ¬ (frame_refusal x.order x.frame ≡ None)

  -- a script for packing calls with these arguments, of which those not refused have one order: it takes as many frames as are packed, and every other
  -- order or frame is one that the table refuses
  pub record Script (ord : List ℕ) (xs : List PackArguments) (script : List (Wish Way)) : Type 0 where
    pub same : Every (λ x. x.order ≡ ord) (unrefused arguments_refusal xs)
    pub as_many : nexts script ≡ length (unrefused arguments_refusal xs)
    pub others : Every OtherRefused script

  -- calls are made as asked, one for each wish: in that way, and not refused or with that order and frame
  abbrev pub Granted : (Way → ReceiveCall receive_kind → Type 0) → List (Wish Way) → List (ReceiveCall receive_kind) → Type 0
  Granted Receives [] [] = Unit
  Granted Receives [] (c ∷ cs) = ⊥
  Granted Receives (wish ∷ script) [] = ⊥
  Granted Receives (next way ∷ script) (c ∷ cs) = Receives way c × (receive_call_refusal c ≡ None) × Granted Receives script cs
  Granted Receives (other way x ∷ script) (c ∷ cs) = Receives way c × (c.arguments ≡ x) × Granted Receives script cs

  -- there are such lists of calls: packing calls with these arguments, and receiving calls by the script, which take every frame packed
  pub record Had (Packs : PackCall pack_kind → Type 0) (Receives : Way → ReceiveCall receive_kind → Type 0) (ord : List ℕ) (xs : List PackArguments)
      (flips : ℕ → ℕ → Bool) (script : List (Wish Way)) (start : Record) : Type 0 where
    pub packs : List (PackCall pack_kind)
    pub receives : List (ReceiveCall receive_kind)
    pub arguments : map (λ c. c.arguments) packs ≡ xs
    pub granted : Granted Receives script receives
    pub session : Session Packs (λ c. (way : Way) × Receives way c) ord packs flips receives start
