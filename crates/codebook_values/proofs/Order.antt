-- The order of signed numbers: the larger of two is the other and a natural number, so sums keep the order.
-- Assumes nothing.
use mathlib.Core.Path.{◌≡◌, refl, sym, ap, ◌∙◌}
use mathlib.Core.Bool.{Bool, true, false, cond}
use Prim.Native.Nat.{ℕ, suc, ◌+◌, ◌-◌}
use native.Mathlib.Omega.{arith}
use lib.Dec.{T, ltb, leb→le, le→leb}
use lib.IntN.{ℤ, pos, negsuc, ◌+ℤ◌, ◌-ℤ◌, +ℤ_assoc, +ℤ_comm, +ℤ-neg_ℤ_cancel, -ℤ-+ℤ_cancel}
use lib.Signed.{le_z, ◌≤ℤ◌}
use borrow.Author.Tests.{lt-ltb, le-ltb}

-- a number is at most itself and a natural number
pub add_le : (a : ℤ) (n : ℕ) → a ≤ℤ (a +ℤ pos n)
add_le (pos a) n = record { le = le→leb a (a + n) (omega arith) }
add_le (negsuc a) n = record { le = go (ltb n (suc a)) refl }
  where
    go : (t : Bool) → ltb n (suc a) ≡ t → T (le_z (negsuc a) (cond t (negsuc (suc a - suc n)) (pos (n - suc a))))
    go true e = le→leb (suc a - suc n) a (omega arith)
    go false e = tt

-- and at least itself without one
pub sub_le : (a : ℤ) (n : ℕ) → (a -ℤ pos n) ≤ℤ a
sub_le a n = rw (-ℤ-+ℤ_cancel a (pos n)) at (add_le (a -ℤ pos n) n)

-- what the larger of two numbers is more
abbrev apart : ℤ → ℤ → ℕ
apart (pos a) (pos b) = b - a
apart (pos a) (negsuc b) = 0
apart (negsuc a) (pos b) = suc a + b
apart (negsuc a) (negsuc b) = a - b

-- it is the smaller one and that
le_apart : (a b : ℤ) → T (le_z a b) → b ≡ a +ℤ pos (apart a b)
le_apart (pos a) (pos b) t = let h = leb→le a b t in let e : b ≡ a + (b - a) = omega arith in ap pos e
le_apart (pos a) (negsuc b) t = absurd t
le_apart (negsuc a) (pos b) t =
    let e : b ≡ suc a + b - suc a = omega arith in
    rw (le-ltb (suc a + b) (suc a) (omega arith)) (ap pos e)
le_apart (negsuc a) (negsuc b) t =
    let h = leb→le b a t in
    let e : b ≡ suc a - suc (a - b) = omega arith in
    rw (lt-ltb (a - b) (suc a) (omega arith)) (ap negsuc e)

-- so the order passes on
pub le_trans : {a b c : ℤ} → a ≤ℤ b → b ≤ℤ c → a ≤ℤ c
le_trans {a} {b} {c} h k =
    let n = pos (apart a b) in
    let m = pos (apart b c) in
    let e : c ≡ a +ℤ n +ℤ m = rw (← le_apart a b h.le) (le_apart b c k.le) in
    rw (e, +ℤ_assoc a n m) (add_le a (apart a b + apart b c))

-- numbers are added in any order
add_swap : (a b c : ℤ) → a +ℤ b +ℤ c ≡ a +ℤ c +ℤ b
add_swap a b c = +ℤ_assoc a b c ∙ ap (λ (z : ℤ). a +ℤ z) (+ℤ_comm b c) ∙ sym (+ℤ_assoc a c b)

-- and one added to both keeps it
pub add_le_add : {a b : ℤ} (c : ℤ) → a ≤ℤ b → (a +ℤ c) ≤ℤ (b +ℤ c)
add_le_add {a} {b} c h =
    let e : b +ℤ c ≡ a +ℤ c +ℤ pos (apart a b) = ap (λ (z : ℤ). z +ℤ c) (le_apart a b h.le) ∙ add_swap a (pos (apart a b)) c in
    rw e (add_le (a +ℤ c) (apart a b))

-- a number goes over to the other side
pub le_sub : {a b : ℤ} (c : ℤ) → (a +ℤ c) ≤ℤ b → a ≤ℤ (b -ℤ c)
le_sub {a} {b} c h = rw (← +ℤ-neg_ℤ_cancel a c) (add_le_add _ h)

-- and back
pub add_le_of_sub : {a b : ℤ} (c : ℤ) → a ≤ℤ (b -ℤ c) → (a +ℤ c) ≤ℤ b
add_le_of_sub {a} {b} c h = rw (-ℤ-+ℤ_cancel b c) at (add_le_add c h)
