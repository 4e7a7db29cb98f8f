-- What reads into a buffer, one after another, consumed of an input.
use Rattle.std.proofs.Common.{◌≡◌, ℕ, ◌+◌, ◌≤◌, List, ◌++◌, length, take, drop, sym, ap, subst, ◌∙◌}
use borrow.Rule.Slice.PartMut.{put_mid, post_of}
use lib.Seq.{take-add, length-take-le}
use Rattle.std.proofs.lemmas.List.{drop_at, take-append-le}
use Rattle.std.specs.declared.option.Option.{Option}
use Rattle.std.specs.Io.KnownBytes.{Consumes}
use Rattle.std.proofs.KnownBytes.{Consumes-trans}

-- xs was filled up to f, and ys has that front and n bytes more
pub filled_more : (a b c : Option (List ℕ)) (xs ys : List ℕ) (f n : ℕ) → take f ys ≡ take f xs
    → Consumes a b (take f xs) → Consumes b c (take n (drop f ys)) → Consumes a c (take (f + n) ys)
filled_more a b c xs ys f n front before read =
    subst (Consumes a c) (ap (λ l. l ++ take n (drop f ys)) (sym front) ∙ sym (take-add f n ys)) (Consumes-trans a b c _ _ before read)

-- where ys stands from f on, its first n are there
pub there : (f k n : ℕ) (xs ys : List ℕ) → f ≤ length xs → n ≤ length ys → take n (drop f (put_mid f k xs ys)) ≡ take n ys
there f k n xs ys h l = ap (take n) (drop_at (take f xs) (ys ++ post_of f k xs) f (length-take-le f xs h)) ∙ take-append-le n ys (post_of f k xs) l
