-- One turn of lowering: the value at a place joins those above it, and asks 50 Hz less of the next one down.
-- Assumes nothing.
use mathlib.Core.Path.{◌≡◌, refl, sym, ap}
use mathlib.Core.List.{List, ◌∷◌, ◌++◌}
use Prim.Native.Nat.{ℕ, suc, ◌≤◌, ◌<◌}
use native.Mathlib.Nat.{le_refl}
use native.Mathlib.Omega.{arith}
use lib.ListN.{length, get_or, take, drop, set, take-append-drop, drop_of_length-le, length-take}
use lib.Seq.{take-suc, take-take, drop-cons, append_snoc, set_at, get_or_at, length-take-le}
use lib.IntN.{ℤ, pos, ◌-ℤ◌}
use Rattle.std.specs.Int.{int_min}
use Rattle.codebook_values.specs.Values.{spacing, most_below, lowered}

-- values of which those from `at` on are lowered, in front of others
abbrev pub lowered_from : ℤ → ℕ → List ℤ → List ℤ → List ℤ
lowered_from most at values others = take at values ++ (lowered most (drop at values) ++ others)

-- before the first turn none is lowered, and `most` is asked of the last
pub lowered_start : (most : ℤ) (n : ℕ) (out : List ℤ)
    → (most ≡ most_below most (lowered most (drop n (take n out)))) × (out ≡ lowered_from most n (take n out) (drop n out))
unfolding lowered
lowered_start most n out =
    let short : length (take n out) ≤ n = simp length-take (omega arith) in
    let none = drop_of_length-le (take n out) short in
    (rw none refl, rw (none, take-take n n out (le_refl n)) (sym (take-append-drop n out)))

-- the turn of the value at j, the last one below `at`
module _ (most : ℤ) (values others : List ℤ) (at j : ℕ) (e : at ≡ suc j) (h : j < length values) where
  -- what stands there before its turn
  pub lowered_at : get_or (lowered_from most at values others) j (pos 0) ≡ get_or values j (pos 0)
  lowered_at =
      rw (e, take-suc values j (pos 0), append_snoc) (get_or_at (take j values) (get_or values j (pos 0)) _ (pos 0) j (length-take-le j values (omega arith)))

  -- the values from j on: the smaller of that and of what is asked, and then those above it
  lowered_cons : lowered most (drop j values)
      ≡ int_min (get_or values j (pos 0)) (most_below most (lowered most (drop at values))) ∷ lowered most (drop at values)
  unfolding lowered
  lowered_cons = rw e (ap (lowered most) (drop-cons values j (pos 0) h))

  -- what joins those above it, and asks 50 Hz less of the next one down
  pub lowered_more : (v : ℤ) → v ≡ int_min (get_or values j (pos 0)) (most_below most (lowered most (drop at values)))
      → (v -ℤ spacing ≡ most_below most (lowered most (drop j values))) × (set (lowered_from most at values others) j v ≡ lowered_from most j values others)
  lowered_more v q =
      let n = length-take-le j values (omega arith) in
      (rw (lowered_cons, ← q) refl, rw (lowered_cons, ← q, e, take-suc values j (pos 0), append_snoc) (set_at (take j values) (get_or values j (pos 0)) _ v j n))
