-- `receiver::valid::ValidRecord::repeats_after` meets its contract: by the number before, and by what goes out and in. Assumes nothing.
use mathlib.Core.Path.{◌≡◌, refl}
use mathlib.Core.Bool.{Bool, true, false}
use Prim.Native.Nat.{◌≤◌}
use native.Mathlib.Omega.{arith}
use lib.ListN.{get_or}
use Rattle.std.specs.Int.{from_bool}
use Rattle.bits.specs.Bits.{bit_num}
use Rattle.bits.proofs.Tests.{T_true}
use Rattle.records.specs.Records.{accepted_kind}
use Rattle.records.proofs.Validity.{valid_count}
use Rattle.receiver.proofs.Pushed.{repeats_le, oldest_counted, repeats_pushed}
use Rattle.receiver.proofs.valid.ValidRecord.repeats_after.Goals as goal

-- the number that a bit is converted to
as_number : (b : Bool) → (from_bool b ≡ bit_num b) × (bit_num b ≤ 1)
as_number true = (refl, omega arith)
as_number false = (refl, omega arith)

pub overflow_add-result : goal.overflow_add-result
overflow_add-result c =
    let s = c.args.self in
    omega (arith, repeats_le s.rec.kinds, valid_count s.rec (T_true _ s.tested), c.from-2.ensures, as_number c.args.latest.repeat)

pub returns : goal.returns
returns c =
    let s = c.args.self in
    let kinds = s.rec.kinds in
    omega (
      arith,
      repeats_pushed kinds (omega arith) c.args.latest,
      oldest_counted kinds (omega arith),
      valid_count s.rec (T_true _ s.tested),
      c.from.ensures,
      c.from-2.ensures,
      as_number (get_or kinds 0 accepted_kind).repeat,
      as_number c.args.latest.repeat,
    )
