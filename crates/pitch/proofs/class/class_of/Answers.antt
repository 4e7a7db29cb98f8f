-- `pitch::class::class_of` meets its contract: each return goes by the count of ones. Assumes nothing.
use mathlib.Core.Path.{sym, ap, ◌∙◌}
use Prim.Native.Nat.{◌≤◌, ◌<◌}
use native.Mathlib.Omega.{arith}
use Rattle.bits.specs.Bits.{ones, bits}
use Rattle.bits.proofs.Digits.{value_bits}
use Rattle.pitch.specs.Pitch.{index}
use Rattle.pitch.specs.declared.PitchClass.TheVariants.{Voiced}
use Rattle.pitch.proofs.Classes.{count_is, class_few, class_two, class_many}
use Rattle.pitch.proofs.class.class_of.Goals as goal

pub returns-then-ones-lt2 : goal.returns-then-ones-lt2
returns-then-ones-lt2 c =
    let s = c in
    let h : ones (bits 7 s.args.code) < 2 = omega (arith, count_is s.args.code s.requires) in
    sym (class_few _ h)

pub returns-then-ones-lt3 : goal.returns-then-ones-lt3
returns-then-ones-lt3 c =
    let s = c in
    let e = count_is s.args.code s.requires in
    let h : ones (bits 7 s.args.code) < 3 = omega (arith, e) in
    let l : 2 ≤ ones (bits 7 s.args.code) = omega (arith, e) in
    sym (class_two _ l h)

pub returns : goal.returns
returns c =
    let s = c in
    let code = s.args.code in
    let l : 3 ≤ ones (bits 7 code) = omega (arith, count_is code s.requires) in
    ap Voiced (c.index_of.ensures ∙ ap index (sym (value_bits 7 code s.requires))) ∙ sym (class_many (bits 7 code) l)
