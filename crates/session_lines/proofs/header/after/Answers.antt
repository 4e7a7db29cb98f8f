-- `session_lines::header::after` meets its contract: the fold compares each pair. Assumes nothing.
use mathlib.Core.Path.{◌≡◌, refl, sym, ap, ◌∙◌}
use mathlib.Core.Bool.{Bool, true, false, ◌&&◌, and_assoc, and-true, and-false}
use mathlib.Core.List.{List, [], ◌∷◌}
use Prim.Native.Nat.{ℕ, ◌≤◌, ◌<◌}
use native.Mathlib.Omega.{arith}
use borrow.Author.Rules.{rules}
use lib.Dec.{eqb}
use lib.ListN.{length, take}
use Rattle.std.specs.List.{fold, zip}
use Rattle.std.proofs.Common.{tests}
use Rattle.std.proofs.lemmas.Iterator.{YieldsList-from_slice, YieldsList-from_zip}
use Rattle.std.proofs.lemmas.Iterator.Consumers.{fold_from_yields_List}
use Rattle.session_lines.specs.Scans.{begins}
use Rattle.session_lines.proofs.header.after.Goals as goal
use Rattle.session_lines.proofs.header.after.Goals.{After-fold-same}

-- the tests of all pairs, after one so far
folded : (same : Bool) (w t : List ℕ) → length w ≤ length t → fold (λ same p. same && eqb p.0 p.1) same (zip w (take (length w) t)) ≡ same && begins w t
unfolding begins
folded same [] t h = sym (and-true same)
folded same (b ∷ bs) [] h = absurd (omega (arith, h))
folded same (b ∷ bs) (c ∷ cs) h = folded (same && eqb b c) bs cs (omega (arith, h)) ∙ and_assoc same (eqb b c) (begins bs cs)

-- a text with fewer bytes does not begin with them
short : (w t : List ℕ) → length t < length w → begins w t ≡ false
unfolding begins
short [] t h = absurd (omega (arith, h))
short (b ∷ bs) [] h = refl
short (b ∷ bs) (c ∷ cs) h = ap (λ (s : Bool). eqb b c && s) (short bs cs (omega (arith, h))) ∙ and-false (eqb b c)

pub returns-in_err-front : goal.returns-in_err-front
returns-in_err-front c =
    let few : length c.args.text.now < length c.args.bytes.now = c.in_err-front.ensures.cases in
    rw c.from_residual.ensures (short c.args.bytes.now c.args.text.now few)

-- the fold tells whether the text begins with the bytes
told : (c : After-fold-same) → c.fold-same.result ≡ begins c.args.bytes.now c.args.text.now
told c =
    let w = c.args.bytes.now in
    let t = c.args.text.now in
    let split = c.in_ok-front.ensures.cases in
    let front : c.in_ok-front.front.now ≡ take (length w) t = split.1 in
    fold_from_yields_List _ (λ same (p : ℕ × ℕ). same && eqb p.0 p.1) true _ c.fold-same.ensures.ran (YieldsList-from_zip (YieldsList-from_slice w (search rules)) (YieldsList-from_slice c.in_ok-front.front.now (search rules))) (λ a x b q k. search (rules, tests))
    ∙ ap (λ (l : List ℕ). fold (λ same (p : ℕ × ℕ). same && eqb p.0 p.1) true (zip w l)) front
    ∙ folded true w t (omega arith)

pub returns-then-not-same : goal.returns-then-not-same
returns-then-not-same c =
    let at = goal.at.returns-then-not-same c in
    sym (told at.After-fold-same) ∙ c.if-not-same.true

pub returns : goal.returns
returns c =
    let at = goal.at.returns c in
    (sym (told at.After-fold-same) ∙ c.if-not-same.false, c.in_ok-front.ensures.cases.2)
