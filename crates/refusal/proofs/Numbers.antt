-- The numbers of refusals.
-- Assumes nothing.
use mathlib.Core.Path.{refl}
use Rattle.refusal.specs.Numbers.{Numbers}

pub numbers : Numbers
numbers = refl
