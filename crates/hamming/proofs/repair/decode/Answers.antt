-- `hamming::repair::decode` meets its contract: the entry at the syndrome decides the outcome. Assumes nothing.
use native.Mathlib.Omega.{arith}
use Rattle.hamming.specs.Word.{length_of}
use Rattle.hamming.proofs.Lengths.{length_least, length_most}
use Rattle.hamming.proofs.Outcomes.{Asked, erase_is, stand_is, flipped_fits, flip_is}
use Rattle.hamming.proofs.repair.decode.Goals as goal
use Rattle.hamming.proofs.repair.decode.Goals.{After-entry_at}

asked : (c : After-entry_at) → Asked (length_of c.args.length) c.args.word c.word_in-word.result c.data_weight-weight.result c.syndrome_of.result c.entry_at.result
asked c = record {
  least = length_least c.args.length;
  most = length_most c.args.length;
  word_is = c.word_in-word.ensures;
  weight_is = c.data_weight-weight.ensures.equal;
  syndrome_is = c.syndrome_of.ensures.number;
  entry_is = c.entry_at.ensures;
}

pub returns-in-9 : goal.returns-in-9
returns-in-9 c = erase_is (asked (goal.at.returns-in-9 c).After-entry_at) c.in-9.is

pub returns-in-8 : goal.returns-in-8
returns-in-8 c = stand_is (asked (goal.at.returns-in-8 c).After-entry_at) c.in-8.is

pub flipped-requires : goal.flipped-requires
flipped-requires c = flipped_fits (asked (goal.at.flipped-requires c).After-entry_at) (λ e. omega arith) (λ e. omega arith)

pub returns-in_default : goal.returns-in_default
returns-in_default c = flip_is (asked (goal.at.returns-in_default c).After-entry_at) (λ e. omega arith) (λ e. omega arith) _ c.flipped.ensures
