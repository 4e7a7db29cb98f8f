-- `soft::prices::parts_of` meets its contract: quotient and remainder are those of the length. Assumes nothing.
use Rattle.hamming.specs.Word.{length_of}
use Rattle.hamming.proofs.Lengths.{length_least, length_most}
use Rattle.soft.proofs.Parts.{data_came, parity_came}
use Rattle.soft.proofs.prices.parts_of.Goals as goal

pub returns : goal.returns
returns c =
    let a = c.args in
    let n = length_of a.length in
    let w = c.data_weight-weight.ensures.equal in
    let d = data_came n (length_least a.length) (length_most a.length) a.word _ (rw (w, c.code_words.ensures)) in
    let p = parity_came n (length_least a.length) (length_most a.length) a.word _ (rw w) in
    record { «data» = d.0; parity = p.0; bounds = (d.1, p.1) }
