-- Neighbouring places in an order: where full bursts of n never hit a part twice, no flips within n are worse.
-- Assumes nothing.
use mathlib.Core.Path.{◌≡◌, refl}
use mathlib.Core.Bool.{Bool, true, false, ◌&&◌}
use mathlib.Core.List.{List, [], ◌∷◌}
use Prim.Native.Nat.{ℕ, ◌+◌, ◌≤◌, ◌<◌}
use native.Mathlib.Omega.{arith}
use lib.Dec.{T, leb, ltb, leb→le, le→leb, lit<}
use lib.ListN.{get_or}
use borrow.Author.Tests.{ltb-true, ltb-false}
use Rattle.bits.specs.Bits.{ones}
use Rattle.bits.proofs.Tests.{chain_at, and_both, every_at}
use Rattle.order.specs.Order.{Order, place_of}
use Rattle.order.specs.Fields.{word_a, word_b, word_c, word_d, pitch_bits}
use Rattle.order.proofs.Places.{place_lt}
use Rattle.bursts.specs.Flips.{logical_flips, Correctable, Within}
use Rattle.bursts.specs.Width.{burst, hits_once, never_twice}
use Rattle.bursts.proofs.Flips.{burst_flips}
use Rattle.bursts.proofs.Parts.{once_correctable, correctable_once}

-- the test of flips passes for correctable ones alone
pub hits_once_only : (fl : ℕ → Bool) → T (hits_once fl) → Correctable fl
hits_once_only fl t = record {
  a = leb→le (ones (word_a fl)) 1 (at 0);
  b = leb→le (ones (word_b fl)) 1 (at 1);
  c = leb→le (ones (word_c fl)) 1 (at 2);
  d = leb→le (ones (word_d fl)) 1 (at 3);
  pitch = leb→le (ones (pitch_bits fl)) 1 (at 4);
}
  where
    rest : List Bool
    rest = leb (ones (word_b fl)) 1 ∷ leb (ones (word_c fl)) 1 ∷ leb (ones (word_d fl)) 1 ∷ leb (ones (pitch_bits fl)) 1 ∷ []

    at : (k : ℕ) → T (get_or (leb (ones (word_a fl)) 1 ∷ rest) k true)
    at = chain_at (leb (ones (word_a fl)) 1) rest t

-- and for each of them
pub hits_once_lem : (fl : ℕ → Bool) → Correctable fl → T (hits_once fl)
hits_once_lem fl w =
    let a = leb (ones (word_a fl)) 1 in
    let b = leb (ones (word_b fl)) 1 in
    let c = leb (ones (word_c fl)) 1 in
    let d = leb (ones (word_d fl)) 1 in
    let ab = and_both a b (le→leb (ones (word_a fl)) 1 w.a) (le→leb (ones (word_b fl)) 1 w.b) in
    let abcd = and_both (a && b && c) d (and_both (a && b) c ab (le→leb (ones (word_c fl)) 1 w.c)) (le→leb (ones (word_d fl)) 1 w.d) in
    and_both (a && b && c && d) (leb (ones (pitch_bits fl)) 1) abcd (le→leb (ones (pitch_bits fl)) 1 w.pitch)

module _ (ord : List ℕ) (o : Order ord) (n : ℕ) (t : T (never_twice ord n)) where
  -- a full burst from any place on is correctable
  pub full_burst : (start : ℕ) → start < 54 → Correctable (logical_flips ord (burst start n))
  full_burst start h =
      hits_once_only (logical_flips ord (burst start n)) (every_at 54 (λ start. hits_once (logical_flips ord (burst start n))) t start h)

  -- so are flips among its places
  among : (fl : ℕ → Bool) (start : ℕ) → start < 54 → ((t : ℕ) → t < 54 → fl t ≡ true → (start ≤ t) × (t < start + n)) → Correctable (logical_flips ord fl)
  among fl start h inside =
      once_correctable (logical_flips ord fl)
      (λ j k l m s e f. correctable_once (logical_flips ord (burst start n)) (full_burst start h) j k s (hit j l e) (hit k m f))
    where
      hit : (j : ℕ) → j < 54 → fl (place_of ord j) ≡ true → burst start n (place_of ord j) ≡ true
      hit j l e = let i = inside (place_of ord j) (place_lt ord o j l) e in burst_flips start n (place_of ord j) i.0 i.1

  -- and any flips within n: from place 54 on there are none
  pub within_correctable : (fl : ℕ → Bool) → Within n fl → Correctable (logical_flips ord fl)
  within_correctable fl w = go (ltb w.start 54) refl
    where
      go : (b : Bool) → ltb w.start 54 ≡ b → Correctable (logical_flips ord fl)
      go true e = among fl w.start (ltb-true w.start 54 e) w.inside
      go false e = among fl 0 (lit< tt) (λ t h f. absurd (omega (arith, w.inside t h f, ltb-false w.start 54 e)))
