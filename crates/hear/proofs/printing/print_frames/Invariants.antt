-- `hear::printing::print_frames` meets its contract: after k turns k frames are received, and their lines are sent or wait. Assumes nothing.
use mathlib.Core.Path.{◌≡◌}
use Prim.Native.Nat.{◌+◌, ◌*◌, ◌≤◌}
use lib.ListN.{take}
use Rattle.std.specs.Io.KnownBytes.{Appends}
use Rattle.order.specs.Order.{default_order}
use Rattle.receiver.specs.Frames.{record_after}
use Rattle.hear.specs.Call.{text_before, repeats_before, text, Pending}
use Rattle.hear.proofs.printing.print_frames.Given as goal

abbrev pub invariant-loop-k : goal.invariant-loop-k
invariant-loop-k g l =
    ((l.progress.rec ≡ record_after default_order l.bytes l.k) × (l.progress.repeats ≡ repeats_before l.bytes l.k) × (l.progress.repeats ≤ l.k))
    × (Pending (text_before l.bytes l.k) l.progress.sent.count l.progress.end l.out × (l.progress.end ≤ 65536) × (l.progress.sent.count + l.progress.end ≤ 22 + 144 * l.k))
    × Appends (g.W.Write.contents l.initial.to) (g.W.Write.contents l.to) (take l.progress.sent.count (text l.bytes))
