-- `receiver::next::push` meets its contract: the fifteen kinds that are copied are all but the oldest. Assumes nothing.
use mathlib.Core.Path.{◌∙◌, ap}
use mathlib.Core.List.{List, [], ◌∷◌, ◌++◌}
use Prim.Native.Nat.{◌≤◌}
use native.Mathlib.Omega.{arith}
use lib.ListN.{length, drop, length-drop}
use Rattle.std.proofs.lemmas.List.{take_all}
use Rattle.records.specs.declared.FrameKind.{FrameKind}
use Rattle.receiver.proofs.next.push.Goals as goal

pub returns : goal.returns
returns c =
    let kinds = c.args.kinds in
    let h : length (drop 1 kinds) ≤ 15 = simp length-drop (omega arith) in
    ap (λ (t : List FrameKind). t ++ c.args.kind ∷ []) (c.copy_from_slice.ensures.after ∙ take_all 15 (drop 1 kinds) h)
