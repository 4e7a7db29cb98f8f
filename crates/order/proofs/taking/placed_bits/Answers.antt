-- `order::taking::placed_bits` meets its contract: four bytes, two and one are joined. Assumes nothing.
use mathlib.Core.Path.{◌∙◌}
use native.Mathlib.Omega.{arith}
use Rattle.order.proofs.Answers.{bytes_all}
use Rattle.order.proofs.taking.placed_bits.Goals as goal

pub returns : goal.returns
returns c = omega (arith, c.from-four.ensures, c.from_be_bytes.ensures) ∙ bytes_all c.args.frame.now c.fits-frame
