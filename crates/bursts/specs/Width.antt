-- Document 02, T-07: the burst width of an order, and what the call for it answers.
use Rattle.std.specs.Prelude.{ℕ, zero, suc, ◌+◌, Bool, cond, ◌&&◌, List, leb, ltb, Result}
use Rattle.bits.specs.Bits.{ones}
use Rattle.bits.specs.Lists.{every}
use Rattle.refusal.specs.Refusals.{first_refusal, unless}
use Rattle.refusal.specs.declared.Refusal.{Refusal}
use Rattle.order.specs.Order.{order_table}
use Rattle.order.specs.Fields.{word_a, word_b, word_c, word_d, pitch_bits}
use Rattle.bursts.specs.Flips.{logical_flips}

-- flips of all n neighbouring places from a place on
abbrev pub burst : ℕ → ℕ → ℕ → Bool
burst start n t = leb start t && ltb t (start + n)

-- whether flips of logical bits hit the pitch code and each word at most once
abbrev pub hits_once : (ℕ → Bool) → Bool
hits_once fl = leb (ones (word_a fl)) 1 && leb (ones (word_b fl)) 1 && leb (ones (word_c fl)) 1 && leb (ones (word_d fl)) 1 && leb (ones (pitch_bits fl)) 1

-- whether flips inside n neighbouring places, wherever these start, never hit any of them twice: not even where all n places are flipped
abbrev pub never_twice : List ℕ → ℕ → Bool
never_twice ord n = every 54 (λ start. hits_once (logical_flips ord (burst start n)))

-- the largest number up to m that passes a test, or 0
abbrev pub largest : ℕ → (ℕ → Bool) → ℕ
largest zero f = zero
largest (suc m) f = cond (f (suc m)) (suc m) (largest m f)

-- the burst width: the largest length up to 54 of which this holds
unfoldable pub burst_width : List ℕ → ℕ
burst_width ord = largest 54 (never_twice ord)

-- the answer: the width, or what refuses the list
unfoldable pub width_answer : List ℕ → Result ℕ Refusal
width_answer ord = unless (first_refusal (order_table ord)) (burst_width ord)
