-- The sums of a set's rows, as the code holds them. A helper of the code, no part of document 01.
use Rattle.std.specs.Prelude.{List, ℤ}
use Rattle.codebook_values.specs.Values.{added_four}
use Rattle.codebook_values.specs.declared.rows.Rows.{Rows}

-- the four rows added
abbrev pub sums : Rows → List ℤ
sums rows = added_four rows.first.now rows.second.now rows.third.now rows.fourth.now
