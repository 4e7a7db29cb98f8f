-- `codebook_values::raising::write_raised` meets its contract: after k turns k values are in front, and `least` is asked of the next. Assumes nothing.
use mathlib.Core.Path.{◌≡◌}
use mathlib.Core.List.{◌++◌}
use Prim.Native.Nat.{◌+◌, ◌*◌, ◌≤◌}
use lib.ListN.{length, take, drop}
use lib.IntN.{nat_abs}
use Rattle.codebook_values.specs.Values.{spacing, raised}
use Rattle.codebook_values.specs.Sums.{sums}
use Rattle.codebook_values.proofs.raising.write_raised.Given as goal

abbrev pub invariant-loop-k : goal.invariant-loop-k
invariant-loop-k l =
    let values = raised spacing (sums l.rows) in
    record {
      turns : l.k ≤ 10;
      room : length l.out ≡ length l.initial.out;
      rest : raised l.least (drop l.k (sums l.rows)) ≡ drop l.k values;
      size : nat_abs l.least ≤ 16000000000 + 50000000 * (l.k + 1);
      front : l.out ≡ take l.k values ++ drop l.k l.initial.out;
    }
