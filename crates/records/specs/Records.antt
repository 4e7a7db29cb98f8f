-- Document 01, "Receiver", with document 02, T-06: the record, the kinds of the latest sixteen frames and how many of them are repeats, mute, and
-- the test of number 4.
use Rattle.std.specs.Prelude.{ℕ, Bool, true, false, ◌&&◌, List, map, eqb, leb, ltb, replicate}
use Rattle.bits.specs.Bits.{ones}
use Rattle.sets.specs.Sets.{in_range}
use Rattle.sets.specs.declared.ParameterSet.{ParameterSet}
use Rattle.sets.specs.declared.ParameterSet.TheVariants.{Unvoiced}
use Rattle.records.specs.declared.FrameKind.{FrameKind}
use Rattle.records.specs.declared.Record.{Record}

-- the kind of a frame, a repeat or not
abbrev pub accepted_kind : FrameKind
accepted_kind = record { repeat = false }

abbrev pub repeated_kind : FrameKind
repeated_kind = record { repeat = true }

-- how many are repeats
abbrev pub repeats_in : List FrameKind → ℕ
repeats_in kinds = ones (map (λ (kind : FrameKind). kind.repeat) kinds)

-- a record that holds how many of its kinds are repeats, as every record does that is made here (T-06)
abbrev pub counted : ParameterSet → ℕ → List FrameKind → Record
counted last g2 kinds = record { last = last; g2 = g2; kinds = kinds; repeats = repeats_in kinds }

-- fresh: an unvoiced set of zeros, G2 = 0, no repeats
unfoldable pub fresh : Record
fresh = counted (Unvoiced (record { l1 = 0; l2 = 0; l3 = 0; l4 = 0; g2 = 0; g1 = 0 })) 0 (replicate 16 accepted_kind)

-- the last set and the last G2 in their ranges
abbrev pub in_ranges : ParameterSet → ℕ → Bool
in_ranges last g2 = in_range last && ltb g2 32

-- what number 4 does not refuse: these in their ranges, and the number of repeats is that of the kinds (T-06)
abbrev pub valid : Record → Bool
valid r = in_ranges r.last r.g2 && eqb r.repeats (repeats_in r.kinds)

-- mute: at least 8 of the latest sixteen are repeats
abbrev pub muted : ℕ → Bool
muted repeats = leb 8 repeats
