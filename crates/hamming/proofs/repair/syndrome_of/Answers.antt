-- `hamming::repair::syndrome_of` meets its contract: the exclusive or of two parities is the syndrome. Assumes nothing.
use Rattle.hamming.specs.Word.{length_of}
use Rattle.hamming.proofs.Lengths.{length_least, length_most}
use Rattle.hamming.proofs.Outcomes as outcome
use Rattle.hamming.proofs.repair.syndrome_of.Goals as goal

pub returns : goal.returns
returns c =
    let a = c.args in
    let p = outcome.syndrome_of (length_of a.length) (length_least a.length) (length_most a.length) a.word _ _ c.data_weight-weight.ensures.equal c.parity_of.ensures in
    record { number = p.0; bound = p.1 }
