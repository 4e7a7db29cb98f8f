-- `session_lines::frames::all_hex` meets its contract: the fold tests each. Assumes nothing.
use mathlib.Core.Path.{◌≡◌, sym, ◌∙◌}
use mathlib.Core.Bool.{Bool, true, ◌&&◌, and_assoc, and-true}
use mathlib.Core.List.{List, [], ◌∷◌}
use Prim.Native.Nat.{ℕ}
use borrow.Author.Rules.{rules}
use Rattle.std.specs.List.{fold}
use Rattle.std.proofs.Common.{tests}
use Rattle.std.proofs.lemmas.Iterator.{YieldsList-from_slice}
use Rattle.std.proofs.lemmas.Iterator.Consumers.{fold_from_yields_List}
use Rattle.session_lines.specs.Lines.{is_hex, all_hex}
use Rattle.session_lines.proofs.frames.all_hex.Goals as goal

-- the tests of all, after one so far
folded : (b : Bool) (ds : List ℕ) → fold (λ all c. all && is_hex c) b ds ≡ b && all_hex ds
unfolding all_hex
folded b [] = sym (and-true b)
folded b (c ∷ cs) = folded (b && is_hex c) cs ∙ and_assoc b (is_hex c) (all_hex cs)

pub returns : goal.returns
returns c =
    let ds = c.args.digits.now in
    fold_from_yields_List _ (λ all c. all && is_hex c) true _ c.fold.ensures.ran (YieldsList-from_slice ds (cc)) (λ a x b q k. search (rules, tests)) ∙ folded true ds
