-- `order::list::next_place` meets its contract: the test is the definition's. Assumes nothing.
use mathlib.Core.Path.{refl}
use Prim.Native.Nat.{◌+◌}
use native.Mathlib.Omega.{arith}
use borrow.Author.Tests.{le-leb, lt-leb}
use Rattle.order.proofs.list.next_place.Goals as goal

pub returns-then-next-ge54 : goal.returns-then-next-ge54
returns-then-next-ge54 c = rw (le-leb 54 (c.args.place + 7) (omega arith)) refl

pub returns-else-next-ge54 : goal.returns-else-next-ge54
returns-else-next-ge54 c = rw (lt-leb 54 (c.args.place + 7) (omega arith)) refl
