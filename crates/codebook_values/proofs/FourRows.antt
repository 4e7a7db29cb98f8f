-- The entries of four rows fit exactly where those of each row do.
-- Assumes nothing.
use mathlib.Core.Path.{◌≡◌}
use mathlib.Core.Bool.{Bool, true, ◌&&◌, and-eq-true_iff}

-- the parts of a test of four
pub and_four : (a b c d : Bool) → a && b && c && d ≡ true → (a ≡ true) × (b ≡ true) × (c ≡ true) × (d ≡ true)
and_four a b c d e =
    let abc = (and-eq-true_iff (a && b && c) d).0 e in
    let ab = (and-eq-true_iff (a && b) c).0 abc.0 in
    let one = (and-eq-true_iff a b).0 ab.0 in
    (one.0, one.1, ab.1, abc.1)
