-- Numbers seen one after the other, as the bits of one number: with every bit below 54 set, each logical number stands once.
-- Assumes nothing.
use mathlib.Core.Path.{◌≡◌, refl, sym, ap, ap₂, ◌∙◌}
use mathlib.Core.Bool.{Bool, true, false, ◌||◌, or_assoc}
use mathlib.Core.List.{List, ◌∷◌}
use Prim.Native.Nat.{ℕ, zero, suc, ◌+◌, ◌*◌, ◌/◌, ◌%◌, ◌^◌, ◌<◌}
use native.Mathlib.Omega.{arith}
use native.Mathlib.Numerals.{add-one}
use lib.Bits.{bit_or, or_lt}
use lib.Dec.{eqb, ltb, ltb→lt, lit<}
use lib.ListN.{length, get_or, drop}
use lib.Seq.{drop-cons}
use borrow.Author.Tests.{lt-ltb, ltb-true, eqb-true, eqb-false}
use Rattle.bits.specs.Bits.{bit_num, add_one, value, bit, bits}
use Rattle.bits.specs.Lists.{every}
use Rattle.bits.proofs.Bitwise.{bit_of_or}
use Rattle.bits.proofs.Digits.{value_bits}
use Rattle.bits.proofs.Tests.{every_at, equal_at, true_T}
use Rattle.order.specs.Order.{times, Order, is_order}
use Rattle.order.proofs.Counting.{stands_once}
use Rattle.order.proofs.Orders.{is_order_lem, no_order}

-- whether a number stands in a list
abbrev pub stands : ℕ → List ℕ → Bool
stands k l = ltb 0 (times k l)

stands_cons : (k x : ℕ) (l : List ℕ) → (eqb x k || stands k l) ≡ stands k (x ∷ l)
stands_cons k x l = go (eqb x k)
  where
    go : (b : Bool) → (b || stands k l) ≡ ltb 0 (add_one b (times k l))
    go true = sym (lt-ltb 0 (suc (times k l)) (omega arith))
    go false = refl

-- the number of 64 bits with bit j alone
abbrev one_bit : ℕ → ℕ
one_bit j = 1 * 2 ^ j % 2 ^ 64

-- its bits
one_bit_lem : (j k : ℕ) → j < 54 → k < 54 → bit k (one_bit j) ≡ eqb j k
one_bit_lem j k h l = ap (λ (x : ℕ). eqb x 1) digit ∙ go (eqb j k)
  where
    digit : one_bit j / 2 ^ k % 2 ≡ bit_num (eqb j k)
    digit =
        equal_at 54 (λ k. one_bit j / 2 ^ k % 2) (λ k. bit_num (eqb j k))
        (every_at 54 (λ j. every 54 (λ k. eqb (one_bit j / 2 ^ k % 2) (bit_num (eqb j k)))) tt j h) k l

    go : (b : Bool) → eqb (bit_num b) 1 ≡ b
    go true = refl
    go false = refl

-- one number more is seen, and those that are left
pub seen_next : (k seen : ℕ) (l : List ℕ) (t : ℕ) → t < length l → get_or l t 0 < 54 → k < 54
    → (bit k (bit_or seen (one_bit (get_or l t 0))) || stands k (drop (t + 1) l)) ≡ (bit k seen || stands k (drop t l))
seen_next k seen l t h j q =
    ap (λ (b : Bool). b || stands k (drop (t + 1) l))
    (bit_of_or k seen (one_bit (get_or l t 0)) ∙ ap (λ (b : Bool). bit k seen || b) (one_bit_lem (get_or l t 0) k j q))
    ∙ or_assoc (bit k seen) (eqb (get_or l t 0) k) (stands k (drop (t + 1) l))
    ∙ rw add-one (ap (λ (b : Bool). bit k seen || b) (stands_cons k (get_or l t 0) (drop (suc t) l) ∙ ap (stands k) (sym (drop-cons l t 0 h))))

-- no bit past the last logical number is set
pub seen_lt : (seen j : ℕ) → seen < 2 ^ 54 → j < 54 → bit_or seen (one_bit j) < 2 ^ 54
seen_lt seen j h l = or_lt 54 seen (one_bit j) h (ltb→lt (one_bit j) (2 ^ 54) (every_at 54 (λ j. ltb (one_bit j) (2 ^ 54)) tt j l))

-- every bit below 54 set
abbrev all_seen : ℕ
all_seen = 18014398509481983

all_bit : (k : ℕ) → k < 54 → bit k all_seen ≡ true
all_bit k h = true_T (bit k all_seen) (every_at 54 (λ k. bit k all_seen) tt k h)

-- numbers that have the low k bits in common
bits_ext : (k a b : ℕ) → ((j : ℕ) → j < k → bit j a ≡ bit j b) → bits k a ≡ bits k b
bits_ext zero a b h = refl
bits_ext (suc k) a b h = ap₂ (λ (x : Bool) (xs : List Bool). x ∷ xs) (h k (omega arith)) (bits_ext k a b (λ j l. h j (omega arith)))

all_seen_lem : (seen : ℕ) → seen < 2 ^ 54 → ((k : ℕ) → k < 54 → bit k seen ≡ true) → seen ≡ all_seen
all_seen_lem seen h every =
    sym (value_bits 54 seen h) ∙ ap value (bits_ext 54 seen all_seen (λ k l. every k l ∙ sym (all_bit k l))) ∙ value_bits 54 all_seen (lit< tt)

-- in a list of 54 whose numbers are seen, every bit is set where the list is an order, and only there
pub seen_order : (ord : List ℕ) (seen : ℕ) → length ord ≡ 54 → seen < 2 ^ 54 → ((k : ℕ) → k < 54 → bit k seen ≡ stands k ord)
    → eqb seen all_seen ≡ is_order ord
seen_order ord seen size h saw = go (eqb seen all_seen) refl
  where
    once : seen ≡ all_seen → (k : ℕ) → k < 54 → times k ord ≡ 1
    once e = stands_once ord 54 size (λ k l. ltb-true 0 (times k ord) (sym (saw k l) ∙ ap (bit k) e ∙ all_bit k l))

    seen_all : Order ord → seen ≡ all_seen
    seen_all o = all_seen_lem seen h (λ k l. saw k l ∙ lt-ltb 0 (times k ord) (omega (arith, o.once k l)))

    go : (b : Bool) → eqb seen all_seen ≡ b → b ≡ is_order ord
    go true e = sym (true_T (is_order ord) (is_order_lem ord (record { size = size; once = once (eqb-true seen all_seen e) })))
    go false e = sym (no_order ord (λ o. eqb-false seen all_seen e (seen_all o)))
