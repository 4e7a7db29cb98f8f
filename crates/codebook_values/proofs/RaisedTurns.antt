-- One turn of raising: what is asked of the next value decides all that follow, and one value more stands in front of the output.
-- Assumes nothing.
use mathlib.Core.Path.{◌≡◌, refl, sym, ap, ◌∙◌}
use mathlib.Core.List.{List, [], ◌∷◌, ◌++◌}
use Prim.Native.Nat.{ℕ, suc, ◌+◌, ◌<◌}
use native.Mathlib.Numerals.{add-one}
use native.Mathlib.Omega.{arith}
use lib.ListN.{length, get_or, take, drop, set}
use lib.Seq.{drop-cons, drop-drop, get_or-drop}
use lib.IntN.{ℤ, pos, ◌+ℤ◌}
use Rattle.std.specs.Int.{int_max}
use Rattle.bits.proofs.Front.{front_more}
use Rattle.codebook_values.specs.Values.{spacing, raised}

-- as many values as sums
pub raised_length : (least : ℤ) (xs : List ℤ) → length (raised least xs) ≡ length xs
unfolding raised
raised_length least [] = refl
raised_length least (x ∷ xs) = ap suc (raised_length (int_max x least +ℤ spacing) xs)

-- where the values from k on are the sums from k on raised, the value at k is its sum raised, and those past k go on from it
raised_next : (least : ℤ) (xs values : List ℤ) (k : ℕ) → k < length xs → raised least (drop k xs) ≡ drop k values
    → let y = int_max (get_or xs k (pos 0)) least in (y ≡ get_or values k (pos 0)) × (raised (y +ℤ spacing) (drop (k + 1) xs) ≡ drop (k + 1) values)
unfolding raised
raised_next least xs values k h e =
    let y = int_max (get_or xs k (pos 0)) least in
    let f : y ∷ raised (y +ℤ spacing) (drop (k + 1) xs) ≡ drop k values = rw add-one (ap (raised least) (sym (drop-cons xs k (pos 0) h)) ∙ e) in
    let z : k + 0 ≡ k = omega arith in
    (ap (λ (t : List ℤ). get_or t 0 (pos 0)) f ∙ (rw z at (get_or-drop k values 0 (pos 0))), ap (drop 1) f ∙ drop-drop 1 k values)

-- after a value that is the sum at k raised to what was asked of it, the values past k go on from it, and it stands in front with those before it
pub raised_more : (xs out₀ out : List ℤ) (least y : ℤ) (k : ℕ) → k < length xs → k < length out₀ → y ≡ int_max (get_or xs k (pos 0)) least →
    let values = raised spacing xs in
    raised least (drop k xs) ≡ drop k values → out ≡ take k values ++ drop k out₀
    → (raised (y +ℤ spacing) (drop (k + 1) xs) ≡ drop (k + 1) values) × (set out k y ≡ take (k + 1) values ++ drop (k + 1) out₀)
raised_more xs out₀ out least y k h room e rest front =
    let values = raised spacing xs in
    let n = raised_next least xs values k h rest in
    let m : k < length values = omega (arith, raised_length spacing xs) in
    (rw e n.1, rw (front, e ∙ n.0) (front_more values out₀ k (pos 0) room m))
