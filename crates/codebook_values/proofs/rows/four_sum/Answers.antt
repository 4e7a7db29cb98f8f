-- `codebook_values::rows::four_sum` meets its contract: no sum is near the type's ends. Assumes nothing.
use native.Mathlib.Omega.{arith}
use Rattle.std.proofs.lemmas.Int.{ints}
use Rattle.codebook_values.proofs.Sizes.{lsf_abs_le}
use Rattle.codebook_values.proofs.rows.four_sum.Goals as goal

pub overflow_add-result-3 : goal.overflow_add-result-3
overflow_add-result-3 c = omega (arith, ints, lsf_abs_le)

pub returns-clause-equal : goal.returns-clause-equal
returns-clause-equal c = omega (arith, ints, lsf_abs_le)

pub returns-clause-bound : goal.returns-clause-bound
returns-clause-bound c = omega (arith, ints, lsf_abs_le)
