-- `reading::unpacking::read_with` meets its contract: each class goes its way. Assumes nothing.
use mathlib.Core.Path.{refl, sym, ◌∙◌}
use Rattle.reading.proofs.unpacking.read_with.Goals as goal

pub returns-in-Unvoiced : goal.returns-in-Unvoiced
returns-in-Unvoiced g c = rw (sym c.class_of.ensures ∙ c.in-Unvoiced.is) (c.unvoiced.ensures)

pub returns-in-Erased : goal.returns-in-Erased
returns-in-Erased g c = rw (sym c.class_of.ensures ∙ c.in-Erased.is) refl

pub returns-in-Voiced : goal.returns-in-Voiced
returns-in-Voiced g c = rw (sym c.class_of.ensures ∙ c.in-Voiced.is) c.voiced.ensures
