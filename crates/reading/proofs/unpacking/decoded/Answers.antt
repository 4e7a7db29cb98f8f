-- `reading::unpacking::decoded` meets its contract: the word is decoded from its bits. Assumes nothing.
use mathlib.Core.Path.{ap, ◌∙◌}
use native.Mathlib.Omega.{arith}
use Rattle.bits.specs.Bits.{cut, carried}
use Rattle.bits.proofs.Cut.{cut_length}
use Rattle.hamming.specs.Word.{length_of, decode}
use Rattle.hamming.proofs.Bounds.{decode_bounded}
use Rattle.hamming.proofs.Lengths.{length_least, length_most}
use Rattle.reading.proofs.Shifts.{bits_back}
use Rattle.reading.proofs.unpacking.decoded.Goals as goal

pub part-requires : goal.part-requires
part-requires c = rw c.bits.ensures (c.requires, length_most c.args.length)

pub returns : goal.returns
returns c =
    let n = length_of c.args.length in
    let g = carried 54 c.args.bits in
    let part = rw c.bits.ensures at c.part.ensures.part in
    let e = c.decode.ensures ∙ ap (decode n) (bits_back g c.args.first n _ part) in
    let l = length_least c.args.length in
    record { outcome = e; bound = rw e (decode_bounded n (cut g c.args.first n) (omega arith) (cut_length g c.args.first n)) }
