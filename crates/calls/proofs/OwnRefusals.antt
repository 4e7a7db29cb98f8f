-- Kinds of calls with refusals of their own: document 01's calls, refused by any numbers, past the table's too, as long as what the table refuses is
-- refused. What is compared of a refused call has its number, and demand 3 holds of lists of such calls.
-- Assumes nothing.
use mathlib.Core.Path.{◌≡◌, refl, sym, ap}
use mathlib.Core.Bool.{Bool}
use mathlib.Core.List.{List}
use Prim.Native.Nat.{ℕ}
use Rattle.std.specs.Prelude.{Option, None, Some, Err}
use Rattle.records.specs.declared.Record.{Record}
use Rattle.calls.specs.Model.{refused, PackKind, PackArguments, pack_kind, pack_unless, pack_model}
use Rattle.calls.specs.Model.{ReceiveKind, ReceiveArguments, receive_kind, outcome_unless, receive_model}
use Rattle.calls.specs.Calls.{PackCall, PackStep, ReceiveCall, ReceiveStep}
use Rattle.calls.specs.Claim.{Session, Claim}
use Rattle.calls.proofs.Demand3.{claim}

module _ (packs : Bool → PackArguments → Option ℕ) (pack_covers : (sync : Bool) (x : PackArguments) → packs sync x ≡ None → pack_kind.refusal sync x ≡ None) where
  -- packing calls that these numbers refuse
  abbrev pub numbered_packs : PackKind
  numbered_packs = record { Arguments = PackArguments; order = pack_kind.order; set = pack_kind.set; lent = pack_kind.lent; Refused = ℕ; number = λ n. n; refusal = packs; covers = pack_covers }

  -- a refused one gives its number in the model, and the sync bit stays
  pub pack_refused : (sync : Bool) (x : PackArguments) (n : ℕ) → packs sync x ≡ Some n → pack_model numbered_packs sync x ≡ record { answer = refused n; state = sync }
  pack_refused sync x n e = ap (λ (m : Option ℕ). pack_unless (λ k. k) m x.order sync x.set) e

  -- and one that answers so and leaves what it was lent does what the model does
  pub pack_refused_step : (sync : Bool) (x : PackArguments) (n : ℕ) → packs sync x ≡ Some n
      → PackStep {P = numbered_packs} (record { arguments = x; given = sync; answer = Err n; output = x.lent })
  pack_refused_step sync x n e = record { outcome = sym (pack_refused sync x n e); output = refl }

module _ (receives : Record → ReceiveArguments → Option ℕ) (receive_covers : (r : Record) (x : ReceiveArguments) → receives r x ≡ None → receive_kind.refusal r x ≡ None) where
  -- receiving calls that these numbers refuse
  abbrev pub numbered_receives : ReceiveKind
  numbered_receives = record { Arguments = ReceiveArguments; order = receive_kind.order; frame = receive_kind.frame; Refused = ℕ; number = λ n. n; refusal = receives; covers = receive_covers }

  -- a refused one gives its number in the model, and the record stays
  pub receive_refused : (r : Record) (x : ReceiveArguments) (n : ℕ) → receives r x ≡ Some n → receive_model numbered_receives r x ≡ record { answer = refused n; state = r }
  receive_refused r x n e = ap (λ (m : Option ℕ). outcome_unless (λ k. k) m x.order r x.frame) e

  -- and one that answers so and leaves its record does what the model does
  pub receive_refused_step : (r : Record) (x : ReceiveArguments) (n : ℕ) → receives r x ≡ Some n
      → ReceiveStep {R = numbered_receives} (record { arguments = x; given = r; answer = Err n; left = r })
  receive_refused_step r x n e = sym (receive_refused r x n e)

  -- demand 3 of lists of both
  pub numbered_claim : (packs : Bool → PackArguments → Option ℕ) (pack_covers : (sync : Bool) (x : PackArguments) → packs sync x ≡ None → pack_kind.refusal sync x ≡ None)
      → (ord : List ℕ) (ps : List (PackCall (numbered_packs packs pack_covers))) (flips : ℕ → ℕ → Bool) (rs : List (ReceiveCall numbered_receives)) (start : Record)
      → Session PackStep ReceiveStep ord ps flips rs start → Claim ord ps flips rs start
  numbered_claim packs pack_covers = claim PackStep (λ c k. k) ReceiveStep (λ c k. k)
