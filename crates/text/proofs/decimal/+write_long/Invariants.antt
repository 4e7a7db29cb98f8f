-- `text::decimal::write_long` ends, because the number falls. Assumes nothing.
use Rattle.text.proofs.decimal.+write_long.Given as goal

abbrev pub decreases-write_long : goal.decreases-write_long
decreases-write_long l = l.n
