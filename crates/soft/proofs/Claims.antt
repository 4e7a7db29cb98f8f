-- What is claimed of the choice of a word's data. Assumes nothing.
use native.Mathlib.Omega.{arith}
use Rattle.soft.specs.Claims.{Claims}
use Rattle.soft.proofs.Ties.{chosen_cheapest, outcomes_are}
use Rattle.soft.proofs.Sent.{choose_sent}
use Rattle.soft.proofs.Equal.{choose_equal}

pub claims : Claims
claims = record {
  cheapest = chosen_cheapest;
  outcomes = outcomes_are;
  spare = λ q w. (outcomes_are 6 q w).single (λ e. absurd (omega arith));
  equal = choose_equal;
  sent = λ n l m q hq above d hd. choose_sent n l m d hd q hq above;
}
