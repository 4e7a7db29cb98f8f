-- Document 02, T-06: the record of the receivers in service, which does not hold how many of its kinds are repeats, and the record that takes its place.
use Rattle.std.specs.Prelude.{Bool, not, [], ◌∷◌, Option, Result}
use Rattle.refusal.specs.Refusals.{Table, first_refusal, unless}
use Rattle.refusal.specs.declared.Refusal.{Refusal}
use Rattle.refusal.specs.declared.Refusal.TheVariants.{InvalidRecord}
use Rattle.records.specs.declared.OldRecord.{OldRecord}
use Rattle.records.specs.declared.Record.{Record}
use Rattle.records.specs.declared.TakenOver.{TakenOver}
use Rattle.records.specs.Records.{in_ranges, counted}

-- every field of an old record in its range: what number 4 did not refuse
abbrev pub valid_old : OldRecord → Bool
valid_old old = in_ranges old.last old.g2

-- what refuses an old record
abbrev pub old_table : OldRecord → Table
old_table old = (not (valid_old old), InvalidRecord) ∷ []

-- its refusal
abbrev pub old_refusal : OldRecord → Option Refusal
old_refusal old = first_refusal (old_table old)

-- whether it is taken, or what refuses it
abbrev pub old_answer : OldRecord → Result (Unit {0}) Refusal
old_answer old = unless (old_refusal old) tt

-- the record with the number of its repeats, all else as it was
abbrev pub with_count : OldRecord → Record
with_count old = counted old.last old.g2 old.kinds

-- taken over: whether the old one is taken, and the new record beside it, which is valid where the old one is (`receiver:TakenOver`)
abbrev pub taken_over : OldRecord → TakenOver
taken_over old = record { answer = old_answer old; next = with_count old }
