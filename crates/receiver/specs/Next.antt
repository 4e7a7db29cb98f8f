-- Document 01, "Receiver", with document 02, T-06: the record after a frame, which holds how many of its kinds are repeats.
use Rattle.std.specs.Prelude.{List, [], ◌∷◌, ◌++◌, drop}
use Rattle.sets.specs.Sets.{indices_in}
use Rattle.sets.specs.declared.ParameterSet.{ParameterSet}
use Rattle.records.specs.Records.{accepted_kind, repeated_kind, counted}
use Rattle.records.specs.declared.FrameKind.{FrameKind}
use Rattle.records.specs.declared.Record.{Record}

-- the kinds after a frame: the oldest goes out, this one goes in as the latest
abbrev pub pushed : List FrameKind → FrameKind → List FrameKind
pushed kinds kind = drop 1 kinds ++ kind ∷ []

-- the next record after an accepted frame: its set is the last set, its G2 the last G2, and its kind goes in
abbrev pub after_accepted : Record → ParameterSet → Record
after_accepted r set = counted set (indices_in set).g2 (pushed r.kinds accepted_kind)

-- and after a repeat: last set and G2 stay
abbrev pub after_repeat : Record → Record
after_repeat r = counted r.last r.g2 (pushed r.kinds repeated_kind)
