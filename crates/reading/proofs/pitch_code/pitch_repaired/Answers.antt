-- `reading::pitch_code::pitch_repaired` meets its contract: it goes by the count of ones. Assumes nothing.
use mathlib.Core.Path.{◌≡◌, refl, ap, ◌∙◌}
use mathlib.Core.Bool.{Bool, true, false, cond}
use Prim.Native.Nat.{ℕ}
use Rattle.std.proofs.Common.{nat_eq}
use Rattle.std.specs.Int.{from_bool}
use Rattle.bits.specs.Bits.{carried, ones}
use Rattle.pitch.proofs.Classes.{count_is}
use Rattle.reading.proofs.Shifts.{bits_back}
use Rattle.reading.proofs.pitch_code.pitch_repaired.Goals as goal

-- a truth value as a number
as_number : (b : Bool) → from_bool b ≡ cond b 1 0
as_number true = refl
as_number false = refl

pub returns-clause-count : goal.returns-clause-count
returns-clause-count c =
    let counted = count_is c.part.result c.part.ensures.bound ∙ ap ones (bits_back (carried 54 c.args.bits) 28 7 _ c.part.ensures.part) in
    c.from.ensures ∙ ap (λ (n : ℕ). from_bool (nat_eq n 1)) counted ∙ as_number _
