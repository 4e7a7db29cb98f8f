-- When a record is valid: one that holds the number of its repeats is where its last set and G2 are in their ranges, the fresh one too; and a valid
-- one has these in their ranges and holds the number of its repeats.
-- Assumes nothing.
use mathlib.Core.Path.{◌≡◌}
use mathlib.Core.List.{List}
use Prim.Native.Nat.{ℕ, ◌<◌}
use lib.Dec.{T, eqb, eqb→eq, eqb_refl, ltb, lt→ltb, ltb→lt}
use Rattle.bits.proofs.Tests.{and_both, and_left, and_right}
use Rattle.sets.specs.Sets.{in_range}
use Rattle.sets.specs.declared.ParameterSet.{ParameterSet}
use Rattle.records.specs.Records.{repeats_in, counted, fresh, in_ranges, valid}
use Rattle.records.specs.declared.FrameKind.{FrameKind}
use Rattle.records.specs.declared.Record.{Record}

pub fresh_valid : T (valid fresh)
unfolding fresh
fresh_valid = tt

pub in_ranges_lem : (last : ParameterSet) (g2 : ℕ) → T (in_range last) → g2 < 32 → T (in_ranges last g2)
in_ranges_lem last g2 t h = and_both (in_range last) (ltb g2 32) t (lt→ltb g2 32 h)

pub counted_valid : (last : ParameterSet) (g2 : ℕ) (kinds : List FrameKind) → T (in_ranges last g2) → T (valid (counted last g2 kinds))
counted_valid last g2 kinds t = and_both (in_ranges last g2) (eqb (repeats_in kinds) (repeats_in kinds)) t (eqb_refl (repeats_in kinds))

module _ (r : Record) (v : T (valid r)) where
  pub valid_ranges : T (in_ranges r.last r.g2)
  valid_ranges = and_left (in_ranges r.last r.g2) (eqb r.repeats (repeats_in r.kinds)) v

  pub valid_g2 : r.g2 < 32
  valid_g2 = ltb→lt r.g2 32 (and_right (in_range r.last) (ltb r.g2 32) valid_ranges)

  pub valid_count : r.repeats ≡ repeats_in r.kinds
  valid_count = eqb→eq r.repeats (repeats_in r.kinds) (and_right (in_ranges r.last r.g2) (eqb r.repeats (repeats_in r.kinds)) v)
