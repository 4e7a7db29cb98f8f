-- `bursts::width::apart_at` meets its contract: the test passes at no pair of places. Assumes nothing.
use mathlib.Core.Path.{◌≡◌, refl, sym, ap, ◌∙◌}
use mathlib.Core.Bool.{Bool, true, false, not}
use mathlib.Core.List.{List}
use Prim.Native.Nat.{ℕ, ◌+◌, ◌-◌, ◌<◌}
use native.Mathlib.Omega.{arith}
use native.Mathlib.Nat.{add_comm}
use lib.Seq.{take_all}
use lib.ListN.{length, get_or, drop, length-drop}
use lib.Dec.{T}
use borrow.Author.Rules.{rules}
use borrow.Author.Tests.{tests}
use Rattle.std.specs.Bool.{MatchBool}
use Rattle.std.specs.List.{zip, AllWithin, HoldsAt}
use Rattle.std.proofs.lemmas.Iterator.{YieldsList-from_slice, YieldsList-from_zip, cases_from_all}
use Rattle.std.proofs.lemmas.Slice.Zip.{get_or-zip, length-zip}
use Rattle.std.proofs.lemmas.List.{get_or-drop}
use Rattle.bits.proofs.Tests.{T_true, true_T}
use Rattle.bursts.specs.Distances.{same_part, differ, apart_at}
use Rattle.bursts.proofs.Tests.{every_all, fails_every}
use Rattle.bursts.proofs.width.apart_at.Goals as goal

-- the pairs of places at a distance
abbrev pairs : List ℕ → ℕ → List (ℕ × ℕ)
pairs ord d = zip ord (drop d ord)

-- the two entries of a pair
entries : (ord : List ℕ) (d k : ℕ) → length ord ≡ 54 → k < length (pairs ord d) → (k < 54 - d) × (get_or (pairs ord d) k (0, 0) ≡ (get_or ord k 0, get_or ord (k + d) 0))
entries ord d k size h =
    let l = length-drop d ord in
    let m = length-zip ord (drop d ord) in
    let a : k < length ord = omega arith in
    let b : k < length (drop d ord) = omega arith in
    (omega arith, get_or-zip ord (drop d ord) k (0, 0) a b ∙ rw (get_or-drop d ord k 0, add_comm d k) refl)

-- where the test of each pair is answered, all of them are
all_is : (ord : List ℕ) (d : ℕ) → length ord ≡ 54 → (r : Bool)
    → MatchBool r (AllWithin (λ p. same_part p.0 p.1 ≡ false) (pairs ord d) 0 (length (pairs ord d)))
    ((k : ℕ) × (k < length (pairs ord d)) × HoldsAt (λ p. same_part p.0 p.1 ≡ true) (pairs ord d) k)
    → r ≡ apart_at ord d
all_is ord d size true m = sym (true_T (apart_at ord d) (every_all (54 - d) (differ ord d) here))
  where
    here : (k : ℕ) → k < 54 - d → T (differ ord d k)
    here k h =
        let a : k < length (pairs ord d) = omega (arith, length-zip ord (drop d ord), length-drop d ord) in
        let e = entries ord d k size a in
        let f = m k (0, 0) (omega arith) a in
        T_true (differ ord d k) (ap not (sym (ap (λ (p : ℕ × ℕ). same_part p.0 p.1) e.1) ∙ f))
all_is ord d size false m =
    let e = entries ord d m.0 size m.1 in
    let f = m.2 (0, 0) in
    sym (fails_every (54 - d) (differ ord d) m.0 e.0 (ap not (sym (ap (λ (p : ℕ × ℕ). same_part p.0 p.1) e.1) ∙ f)))

pub returns : goal.returns
returns c =
    let ord = c.args.order.now in
    let rest = take_all (length ord - c.args.distance) (drop c.args.distance ord) (omega (arith, length-drop c.args.distance ord)) in
    all_is ord c.args.distance c.requires.0 c.all.result
    (cases_from_all c.all.new.self _ _ (λ (p : ℕ × ℕ). same_part p.0 p.1 ≡ false) (λ p. same_part p.0 p.1 ≡ true) c.all.ensures.ran (YieldsList-from_zip (YieldsList-from_slice ord (search rules)) (YieldsList-from_slice (drop c.args.distance ord) (c.zip.ensures.second.0 ∙ rest)))
    (λ x q k. search (rules, tests)) (λ x q k. search (rules, tests)))
