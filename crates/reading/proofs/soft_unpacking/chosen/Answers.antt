-- `reading::soft_unpacking::chosen` meets its contract: the word is chosen by the confidences of its bits. Assumes nothing.
use mathlib.Core.Path.{◌≡◌, refl, ap, ap₂, ◌∙◌}
use Prim.Native.Nat.{ℕ}
use native.Mathlib.Omega.{arith}
use lib.ListN.{get_or, take}
use Rattle.bits.specs.Bits.{cut, carried}
use Rattle.bits.proofs.Cut.{cut_length}
use Rattle.hamming.specs.Word.{length_of}
use Rattle.hamming.specs.declared.WordLength.{WordLength}
use Rattle.hamming.specs.declared.WordLength.TheVariants.{Six, Seven, Eight}
use Rattle.hamming.proofs.Lengths.{length_most}
use Rattle.soft.specs.Choice.{choose}
use Rattle.soft.proofs.Bounds.{choose_bounded}
use Rattle.reading.proofs.Shifts.{bits_back}
use Rattle.reading.proofs.soft_unpacking.chosen.Goals as goal

-- the first few of eight
first_few : (l : WordLength) (q : ℕ → ℕ) (i : ℕ) → take (length_of l) (cut q i 8) ≡ cut q i (length_of l)
first_few Six q i = refl
first_few Seven q i = refl
first_few Eight q i = refl

pub part-requires : goal.part-requires
part-requires c =
    let m = length_most c.args.length in
    rw c.bits.ensures (omega arith, m)

pub returns : goal.returns
returns c =
    let a = c.args in
    let n = length_of a.length in
    let w = cut (carried 54 a.bits) a.first n in
    let q = λ (j : ℕ). get_or a.confidences.now j 0 in
    let part = rw c.bits.ensures at c.part.ensures.part in
    let e = c.choose.ensures ∙ ap₂ (choose n) (ap (take n) c.eight.ensures ∙ first_few a.length q a.first) (bits_back (carried 54 a.bits) a.first n _ part) in
    record { outcome = e; bound = rw e (choose_bounded n (cut q a.first n) w (cut_length (carried 54 a.bits) a.first n)) }
