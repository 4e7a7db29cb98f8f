-- `frame::layout::Fitting::other_bits` meets its contract: the parts are joined from the first on. Assumes nothing.
use mathlib.Core.Path.{sym}
use native.Mathlib.Omega.{arith}
use Rattle.bits.proofs.Tests.{T_true}
use Rattle.sets.proofs.Ranges.{index_ranges}
use Rattle.frame.proofs.Numbers.{bit_is_number, bit_at_most_one, others_value}
use Rattle.frame.proofs.layout.Fitting.other_bits.Goals as goal

pub returns-clause-number : goal.returns-clause-number
returns-clause-number c =
    let a = c.args in
    let r = index_ranges a.self.x (T_true _ c.args.self.fits) in
    simp (c.from.ensures, c.from-2.ensures, c.from-3.ensures, c.from-4.ensures, c.from-5.ensures, bit_is_number a.sync)
    (sym (others_value a.self.x r.l2 r.l3 r.l4 a.code a.sync c.requires))

pub returns-clause-bound : goal.returns-clause-bound
returns-clause-bound c = omega (arith, index_ranges c.args.self.x (T_true _ c.args.self.fits), bit_at_most_one c.args.sync)
