-- The front that is written grows by what one write took.
use Rattle.std.proofs.Common.{rules}
use Rattle.std.proofs.lemmas.List.{take_rest}
use Rattle.console.proofs.Fronts.{given_more}
use Rattle.console.proofs.write_all.Goals as goal

pub loop-written-preserved : goal.loop-written-preserved
loop-written-preserved g c =
    let took = rw take_rest at c.in_ok-taken.ensures.bytes in
    (search rules, given_more _ _ _ _ _ _ c.loop-written.invariant.1 took)
