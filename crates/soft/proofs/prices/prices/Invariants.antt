-- `soft::prices::prices` meets its contract: after u turns the first u prices stand in front. Assumes nothing.
use mathlib.Core.Path.{◌≡◌}
use mathlib.Core.List.{◌++◌}
use lib.ListN.{take, drop, replicate}
use Rattle.bits.specs.Bits.{bits, cut}
use Rattle.hamming.specs.Word.{length_of}
use Rattle.soft.specs.Prices.{price_of}
use Rattle.soft.proofs.prices.prices.Given as goal

abbrev pub invariant-loop-u : goal.invariant-loop-u
invariant-loop-u l =
    l.prices ≡ cut (price_of (length_of l.length) (take (length_of l.length) l.fn.q) (bits (length_of l.length) l.word)) 0 l.u ++ drop l.u (replicate 16 65535)
