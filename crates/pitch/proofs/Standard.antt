-- Each row of Table I that our copy has agrees with the rule.
-- Assumes nothing.
use mathlib.Core.Path.{refl}
use Rattle.pitch.specs.Pitch.{index, class_of}
use Rattle.pitch.specs.Standard.{StandardRows}

pub standard_rows : StandardRows
unfolding index class_of
standard_rows = record { rows_00 = refl; rows_12 = refl; rows_32 = refl; rows_52 = refl; rows_72 = refl }
