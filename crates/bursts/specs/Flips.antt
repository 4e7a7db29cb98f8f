-- Document 01, "Lists of calls": flips of a frame's bits, those that are correctable, and those within neighbouring places.
use Rattle.std.specs.Prelude.{ℕ, ◌+◌, ◌≤◌, ◌<◌, ◌≡◌, Bool, true, List}
use Rattle.bits.specs.Bits.{ones, cut}
use Rattle.order.specs.Order.{place_of}
use Rattle.order.specs.Fields.{word_a, word_b, word_c, word_d, pitch_bits}

-- the flips of logical bits that a channel's flips of places are, in an order
abbrev pub logical_flips : List ℕ → (ℕ → Bool) → ℕ → Bool
logical_flips ord fl j = fl (place_of ord j)

-- flips that repair undoes, document 01's "light": at most one in the pitch code and in each word
pub record Correctable (fl : ℕ → Bool) : Type 0 where
  pub a : ones (word_a fl) ≤ 1
  pub b : ones (word_b fl) ≤ 1
  pub c : ones (word_c fl) ≤ 1
  pub d : ones (word_d fl) ≤ 1
  pub pitch : ones (pitch_bits fl) ≤ 1

-- how many flips are in the four words and the pitch code
abbrev pub protected_flips : (ℕ → Bool) → ℕ
protected_flips fl = ones (cut fl 0 35)

-- flips of places that lie within n neighbouring ones, from some place on
pub record Within (n : ℕ) (fl : ℕ → Bool) : Type 0 where
  pub start : ℕ
  pub inside : (t : ℕ) → t < 54 → fl t ≡ true → (start ≤ t) × (t < start + n)
