-- What a writer was given by one write after another: a front of the bytes, and more of it.
use Rattle.std.proofs.Common.{ℕ, ◌+◌, ◌≤◌, min, List, length, take, drop, sym, subst, take-take, length-take, arith}
use lib.Seq.{take-add}
use Rattle.std.proofs.lemmas.List.{take_min}
use Rattle.std.specs.declared.option.Option.{Option}
use Rattle.std.specs.Io.KnownBytes.{Appends}
use Rattle.std.proofs.KnownBytes.{Appends-trans}
use Rattle.console.specs.Fronts.{AppendsFront}

-- the first m, and then the next n, are the first m + n
pub given_more : (a b c : Option (List ℕ)) (xs : List ℕ) (m n : ℕ)
    → Appends a b (take m xs) → Appends b c (take n (drop m xs)) → Appends a c (take (m + n) xs)
given_more a b c xs m n before more = subst (Appends a c) (sym (take-add m n xs)) (Appends-trans a b c _ _ before more)

-- the first n, where there may be fewer, are a front
pub front_of : (a b : Option (List ℕ)) (xs : List ℕ) (n : ℕ) → Appends a b (take n xs) → AppendsFront a b xs
front_of a b xs n given = (min n (length xs), omega arith, subst (Appends a b) (sym (take_min n xs)) given)

-- the first m, and then a front of the next ones, are a front
pub front_more : (a b c : Option (List ℕ)) (xs : List ℕ) (m end : ℕ)
    → Appends a b (take m xs) → AppendsFront b c (take end (drop m xs)) → AppendsFront a c xs
front_more a b c xs m end before (n, le, more) =
    let fits : n ≤ end = omega (arith, le, length-take end (drop m xs)) in
    front_of a c xs (m + n) (given_more a b c xs m n before (subst (Appends b c) (take-take n end (drop m xs) fits) more))
