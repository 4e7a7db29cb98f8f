-- Whatever is chosen fits its word: data of no more bits than it has, and no more places that differ.
-- Assumes nothing.
use mathlib.Core.Path.{◌≡◌}
use mathlib.Core.Bool.{Bool, true, false, cond, ◌&&◌}
use mathlib.Core.List.{List}
use Prim.Native.Nat.{ℕ, ◌<◌}
use native.Mathlib.Omega.{arith}
use lib.Dec.{eqb, leb}
use lib.ListN.{length}
use lib.Pow.{pow_pos}
use Rattle.std.specs.Prelude.{None}
use Rattle.bits.specs.Bits.{ones}
use Rattle.bits.proofs.Count.{ones_le}
use Rattle.hamming.specs.Word.{data_bits, Bounded, read_as}
use Rattle.soft.specs.Choice.{code_words, differing, key, chosen, cheapest, choose}
use Rattle.soft.proofs.Least.{least_lt}
use Rattle.soft.proofs.Splitting.{differing_length}

-- the data are those of a code word
pub chosen_lt : (n : ℕ) (q : List ℕ) (w : List Bool) → chosen n q w < code_words n
unfolding chosen
chosen_lt n q w = least_lt (key n q w) (code_words n) (pow_pos (data_bits n))

-- the outcome fits
pub choose_bounded : (n : ℕ) (q : List ℕ) (w : List Bool) → length w ≡ n → Bounded n (choose n q w)
unfolding choose
choose_bounded n q w h = go (eqb n 8 && leb 2 (cheapest n q w))
  where
    go : (t : Bool) → Bounded n (cond t None (read_as (chosen n q w) (ones (differing n w (chosen n q w)))))
    go true = tt
    go false = (chosen_lt n q w, omega (arith, ones_le (differing n w (chosen n q w)), differing_length n w (chosen n q w) h))
