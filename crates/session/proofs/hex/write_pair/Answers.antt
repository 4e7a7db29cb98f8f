-- `session::hex::write_pair` meets its contract: two digits are stored one after the other. Assumes nothing.
use mathlib.Core.Path.{◌∙◌}
use mathlib.Core.List.{[], ◌∷◌}
use native.Mathlib.Omega.{arith}
use lib.ListN.{length-set}
use Rattle.text.specs.Placing.{written}
use Rattle.text.proofs.Puts.{pair_put}
use Rattle.session.proofs.hex.write_pair.Goals as goal

pub bounds-out-at-2 : goal.bounds-out-at-2
bounds-out-at-2 c =
    let first = c in
    let a = first.args in
    omega (arith, length-set a.out.now a.at first.digit.result)

pub returns : goal.returns
returns c =
    let first = c in
    let a = first.args in
    let p = pair_put a.out.now a.at first.digit.result c.digit-2.result (omega arith) in
    (p.0, p.1 ∙ (λ i. written (first.digit.ensures i ∷ c.digit-2.ensures i ∷ []) a.at a.out.now))
