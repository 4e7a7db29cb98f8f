-- `reading::pitch_code::class_of` meets its contract: a seven-bit code is not refused. Assumes nothing.
use mathlib.Core.Path.{refl, ap, ◌∙◌}
use Rattle.std.specs.Prelude.{Ok}
use native.Mathlib.Omega.{arith}
use Rattle.bits.specs.Bits.{carried}
use Rattle.pitch.specs.Pitch.{class_of}
use Rattle.pitch.proofs.Answers.{class_answered}
use Rattle.reading.proofs.Shifts.{bits_back}
use Rattle.reading.proofs.pitch_code.class_of.Goals as goal

pub unwrap-requires : goal.unwrap-requires
unwrap-requires c = rw (c.classify.ensures ∙ class_answered c.part.result c.part.ensures.bound) refl

pub returns : goal.returns
returns c =
    let e = class_answered c.part.result c.part.ensures.bound ∙ ap Ok (ap class_of (bits_back (carried 54 c.args.bits) 28 7 _ c.part.ensures.part)) in
    grind (arith, c.unwrap.ensures, c.classify.ensures, e)
