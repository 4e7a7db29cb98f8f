-- What the theorem on records taken over is given can be had: for every old record, and receiving calls made in any ways and passed anything.
-- Assumes nothing.
use mathlib.Core.Path.{refl}
use mathlib.Core.List.{List, [], ◌∷◌}
use Rattle.records.specs.OldRecords.{with_count, taken_over}
use Rattle.records.specs.declared.Record.{Record}
use Rattle.calls.specs.CodeCalls.{Way}
use Rattle.calls.specs.AnyCalls.{Passed, plain, soft, AnyCall, CodeReceivesAs, AnyRun}
use Rattle.calls.specs.TakenOver.{MadeAs, AlwaysHad}
use Rattle.calls.proofs.ReceivingCalls.{receive_had}
use Rattle.calls.proofs.SoftCalls.{soft_made}
use Rattle.calls.proofs.TakenOver.{new_call}

-- the call that a record and what is passed lead to, and the list of them
abbrev call_of : Record → Passed → AnyCall
call_of r x = record { passed = x; given = r; answer = (new_call r x).answer; left = (new_call r x).next }

abbrev calls_of : Record → List (Way × Passed) → List AnyCall
calls_of r [] = []
calls_of r (x ∷ xs) = call_of r x.1 ∷ calls_of (new_call r x.1).next xs

-- each is one of the code
call_had : (way : Way) (r : Record) (x : Passed) → CodeReceivesAs way x r (new_call r x).answer (new_call r x).next
call_had way r (plain order bytes) = receive_had way r (record { order = order; frame = bytes })
call_had way r (soft order bytes confidences) = soft_made order r bytes confidences way

calls_run : (r : Record) (xs : List (Way × Passed)) → AnyRun r (calls_of r xs)
calls_run r [] = tt
calls_run r (x ∷ xs) = (refl, (x.0, call_had x.0 r x.1), calls_run (new_call r x.1).next xs)

calls_made : (r : Record) (xs : List (Way × Passed)) → MadeAs xs (calls_of r xs)
calls_made r [] = tt
calls_made r (x ∷ xs) = (call_had x.0 r x.1, refl, calls_made (new_call r x.1).next xs)

pub always_had : AlwaysHad
always_had old xs = record {
  taking = record { old = old; gave = taken_over old };
  takes = record { κs = tt; passed = (old, tt); gave = taken_over old; left = (old, tt); contract = refl; observed = refl };
  old_is = refl;
  calls = calls_of (with_count old) xs;
  run = calls_run (with_count old) xs;
  made = calls_made (with_count old) xs;
}
