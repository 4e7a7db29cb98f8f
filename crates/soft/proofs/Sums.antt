-- The sums of any of four prices, and that those of the last three stand among them.
-- Assumes nothing.
use mathlib.Core.Path.{◌≡◌, sym, ap, ◌∙◌, subst}
use mathlib.Core.Bool.{Bool, false}
use mathlib.Core.List.{List, [], ◌∷◌}
use Prim.Native.Nat.{ℕ, suc, ◌+◌, ◌/◌, ◌%◌, ◌^◌, ◌≤◌, ◌<◌}
use native.Mathlib.Nat.{zero-add, add-zero, lt_of_lt_of_le}
use native.Mathlib.Omega.{arith}
use lib.Dec.{eqb}
use lib.ListN.{length, get_or}
use lib.Pow.{pow_mono, shr_lt}
use Rattle.bits.specs.Bits.{bit, bits, cut}
use Rattle.bits.proofs.Cut.{cut_at, cut_get_or}
use Rattle.soft.specs.Choice.{weigh}
use Rattle.soft.specs.Prices.{SumsOf}
use Rattle.soft.proofs.Weights.{weigh_le}

module _ (a b c d : ℕ) where
  -- all of them, by the number whose bits say which
  abbrev pub four_sums : List ℕ
  four_sums =
      0 ∷ d ∷ c ∷ (c + d) ∷ b ∷ (b + d) ∷ (b + c) ∷ (b + (c + d)) ∷ a ∷ (a + d) ∷ (a + c) ∷ (a + (c + d)) ∷ (a + b) ∷ (a + (b + d)) ∷ (a + (b + c))
      ∷ (a + (b + (c + d))) ∷ []

  four_sums_lem : four_sums ≡ cut (λ e. weigh (a ∷ b ∷ c ∷ d ∷ []) (bits 4 e)) 0 16
  four_sums_lem = simp (add-zero a, add-zero b, add-zero c, add-zero d)

  -- they are the sums
  pub sums_of : a ≤ 4081 → b ≤ 4081 → c ≤ 4081 → d ≤ 4081 → SumsOf (a ∷ b ∷ c ∷ d ∷ []) four_sums
  sums_of ha hb hc hd e h =
      let ps : List ℕ = a ∷ b ∷ c ∷ d ∷ [] in
      let is : get_or four_sums e 0 ≡ weigh ps (bits 4 e) =
      ap (λ (l : List ℕ). get_or l e 0) four_sums_lem ∙ cut_at 0 (λ e. weigh ps (bits 4 e)) 0 16 e h ∙ ap (λ (i : ℕ). weigh ps (bits 4 i)) (zero-add e) in
      (is, omega (arith, is, weigh_le 4081 ps (bits 4 e) (ha, (hb, (hc, (hd, tt))))))

-- a number of k bits has no bit k
bit_past : (k e : ℕ) → e < 2 ^ k → bit k e ≡ false
bit_past k e h =
    let h' : e < 2 ^ (0 + k) = subst (λ (j : ℕ). e < 2 ^ j) (sym (zero-add k)) h in
    let none : e / 2 ^ k % 2 ≡ 0 = omega (arith, shr_lt 0 k h') in
    ap (λ (x : ℕ). eqb x 1) none

-- so the first price is in none of its sums
pub sums_rest : (p : ℕ) (ps sums : List ℕ) → SumsOf (p ∷ ps) sums → SumsOf ps sums
sums_rest p ps sums s e h =
    let below : e < 2 ^ suc (length ps) = lt_of_lt_of_le h (pow_mono (omega arith)) in
    ((s e below).0 ∙ ap (λ (b : Bool). weigh (p ∷ ps) (b ∷ bits (length ps) e)) (bit_past (length ps) e h), (s e below).1)

-- a list of eight, entry by entry
pub eight_entries : (q : List ℕ) → length q ≡ 8
    → q ≡ get_or q 0 0 ∷ get_or q 1 0 ∷ get_or q 2 0 ∷ get_or q 3 0 ∷ get_or q 4 0 ∷ get_or q 5 0 ∷ get_or q 6 0 ∷ get_or q 7 0 ∷ []
eight_entries q h = sym (cut_get_or 0 q) ∙ ap (cut (λ j. get_or q j 0) 0) h
