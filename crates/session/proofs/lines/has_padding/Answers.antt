-- `session::lines::has_padding` meets its contract: a frame has padding bits by its last byte. Assumes nothing.
use mathlib.Core.Path.{◌∙◌}
use mathlib.Core.Bool.{not}
use mathlib.Core.List.{List}
use Prim.Native.Nat.{ℕ, ◌%◌}
use lib.Dec.{eqb}
use lib.ListN.{get_or}
use Rattle.std.proofs.Common.{rules}
use Rattle.std.proofs.lemmas.Iterator.{YieldsList-from_slice}
use Rattle.std.proofs.lemmas.Iterator.Search.{any_from_yields_List}
use Rattle.session.proofs.Padding.{any_padded_is}
use Rattle.session.proofs.lines.has_padding.Goals as goal

pub returns : goal.returns
returns c =
    let frames = c.args.frames.now in
    any_from_yields_List (λ (f : List ℕ). not (eqb (get_or f 6 0 % 4) 0)) _ _ _ c.any.ensures.ran (YieldsList-from_slice frames cc) (λ x b q k. search rules)
    ∙ any_padded_is frames
