-- Flips are correctable exactly where no two of them are of one part: of the same word, or both of the pitch code.
-- Assumes nothing.
use mathlib.Core.Path.{◌≡◌, refl, sym, ap, subst, ◌∙◌}
use mathlib.Core.Bool.{Bool, true, false, cond}
use mathlib.Core.List.{[], ◌∷◌}
use Prim.Native.Nat.{ℕ, zero, suc, ◌+◌, ◌-◌, ◌≤◌, ◌<◌}
use native.Mathlib.Omega.{arith}
use lib.Dec.{T, leb, eqb, ltb, leb→le, ltb→lt, eqb→eq}
use lib.ListN.{get_or}
use borrow.Author.Tests.{eq-eqb, ltb-true, ltb-false}
use Rattle.bits.specs.Bits.{ones, cut}
use Rattle.bits.specs.Lists.{every}
use Rattle.bits.proofs.Tests.{T_true, and_left, and_right, and_both, equal_at}
use Rattle.bursts.specs.Flips.{Correctable}
use Rattle.bursts.specs.Distances.{part_of, same_part}
use Rattle.bursts.proofs.Pairs.{few_set, few_same}

-- the first bit of each part, and the first past them
abbrev part_from : ℕ → ℕ
part_from k = get_or (0 ∷ 8 ∷ 14 ∷ 21 ∷ 28 ∷ 35 ∷ []) k 35

-- a bit of a part stands in it
part_range : (j k : ℕ) → part_of j ≡ k → k < 5 → (part_from k ≤ j) × (j < part_from (suc k))
part_range j k e h = go (ltb j 8) (ltb j 14) (ltb j 21) (ltb j 28) (ltb j 35) refl refl refl refl refl e
  where
    go : (v w x y z : Bool) → ltb j 8 ≡ v → ltb j 14 ≡ w → ltb j 21 ≡ x → ltb j 28 ≡ y → ltb j 35 ≡ z
        → cond v 0 (cond w 1 (cond x 2 (cond y 3 (cond z 4 5)))) ≡ k → (part_from k ≤ j) × (j < part_from (suc k))
    go true w x y z a b c d f e = rw (sym e) (omega (arith, ltb-true j 8 a))
    go false true x y z a b c d f e = rw (sym e) (omega (arith, ltb-false j 8 a, ltb-true j 14 b))
    go false false true y z a b c d f e = rw (sym e) (omega (arith, ltb-false j 14 b, ltb-true j 21 c))
    go false false false true z a b c d f e = rw (sym e) (omega (arith, ltb-false j 21 c, ltb-true j 28 d))
    go false false false false true a b c d f e = rw (sym e) (omega (arith, ltb-false j 28 d, ltb-true j 35 f))
    go false false false false false a b c d f e = absurd (omega arith)

-- correctable flips are at most one of each part
part_few : (fl : ℕ → Bool) → Correctable fl → (k : ℕ) → k < 5 → ones (cut fl (part_from k) (part_from (suc k) - part_from k)) ≤ 1
part_few fl c zero h = omega (arith, c.a)
part_few fl c (suc zero) h = omega (arith, c.b)
part_few fl c (suc (suc zero)) h = omega (arith, c.c)
part_few fl c (suc (suc (suc zero))) h = omega (arith, c.d)
part_few fl c (suc (suc (suc (suc zero)))) h = omega (arith, c.pitch)
part_few fl c (suc (suc (suc (suc (suc k))))) h = absurd (omega arith)

-- of correctable flips no two are of one part
pub correctable_once : (fl : ℕ → Bool) → Correctable fl → (j k : ℕ) → T (same_part j k) → fl j ≡ true → fl k ≡ true → j ≡ k
correctable_once fl c j k t =
    let p = part_of j in
    let h : p < 5 = ltb→lt p 5 (and_left (ltb p 5) (eqb p (part_of k)) t) in
    let e : p ≡ part_of k = eqb→eq p (part_of k) (and_right (ltb p 5) (eqb p (part_of k)) t) in
    let r = part_range j p refl h in
    let s = part_range k p (sym e) h in
    few_same fl (part_from p) (part_from (suc p) - part_from p) (part_few fl c p h) j k r.0 (omega arith) s.0 (omega arith)

-- two bits of part k are of one part
same_part_lem : (i j k : ℕ) → part_of i ≡ k → part_of j ≡ k → T (ltb k 5) → T (same_part i j)
same_part_lem i j k a b t =
    and_both (ltb (part_of i) 5) (eqb (part_of i) (part_of j)) (subst (λ (p : ℕ). T (ltb p 5)) (sym a) t)
    (T_true (eqb (part_of i) (part_of j)) (eq-eqb (part_of i) (part_of j) (a ∙ sym b)))

-- and so they are the other way round
pub same_part_turned : (i j : ℕ) → T (same_part i j) → T (same_part j i)
same_part_turned i j t =
    let e = eqb→eq (part_of i) (part_of j) (and_right (ltb (part_of i) 5) (eqb (part_of i) (part_of j)) t) in
    same_part_lem j i (part_of i) (sym e) refl (and_left (ltb (part_of i) 5) (eqb (part_of i) (part_of j)) t)

-- where the test passes at the n bits from i on, each of them is of part k
part_is : (i n k : ℕ) → T (every n (λ m. eqb (part_of (i + m)) k)) → (j : ℕ) → i ≤ j → j < i + n → part_of j ≡ k
part_is i n k t j a b =
    let e : i + (j - i) ≡ j = omega arith in
    ap part_of (sym e) ∙ equal_at n (λ m. part_of (i + m)) (λ m. k) t (j - i) (omega arith)

-- flips of which no two are of one part are correctable
pub once_correctable : (fl : ℕ → Bool) → ((j k : ℕ) → j < 54 → k < 54 → T (same_part j k) → fl j ≡ true → fl k ≡ true → j ≡ k) → Correctable fl
once_correctable fl h = record {
  a = few 0 8 0 tt tt tt;
  b = few 8 6 1 tt tt tt;
  c = few 14 7 2 tt tt tt;
  d = few 21 7 3 tt tt tt;
  pitch = few 28 7 4 tt tt tt;
}
  where
    few : (i n p : ℕ) → T (every n (λ m. eqb (part_of (i + m)) p)) → T (ltb p 5) → T (leb (i + n) 54) → ones (cut fl i n) ≤ 1
    few i n p t u v =
        let l : i + n ≤ 54 = leb→le (i + n) 54 v in
        few_set fl i n (λ j k a b c d. h j k (omega arith) (omega arith) (same_part_lem j k p (part_is i n p t j a b) (part_is i n p t k c d) u))
