-- The four words with what stands in their parity places as numbers, a helper of the contracts inside.
use Rattle.std.specs.Prelude.{Bool, List}
use Rattle.bits.specs.Bits.{bits}
use Rattle.sets.specs.declared.Indices.{Indices}
use Rattle.frame.specs.Layout.{words}
use Rattle.frame.specs.declared.parities.Parities.{Parities}

abbrev pub words_with : Indices → Parities → List Bool
words_with x p = words x (bits 4 p.a) (bits 3 p.b) (bits 3 p.c) (bits 3 p.d)
