-- `order::list::default_order` meets its contract: before each turn the bits before it are named, and the place is carried as far. Assumes nothing.
use Prim.Native.Nat.{◌+◌, ◌*◌}
use Rattle.order.proofs.Naming.{NamedTo}
use Rattle.order.proofs.list.default_order.Given as goal

abbrev pub invariant-loop-nine : goal.invariant-loop-nine
invariant-loop-nine l = NamedTo (9 * l.nine) l.place l.entries

abbrev pub invariant-loop-i : goal.invariant-loop-i
invariant-loop-i l = NamedTo (9 * l.nine + l.i) l.place l.entries
