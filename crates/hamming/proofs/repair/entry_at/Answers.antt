-- `hamming::repair::entry_at` meets its contract: each row of the table is the rule at every syndrome. Assumes nothing.
use Rattle.hamming.specs.Word.{fix_of}
use Rattle.hamming.specs.Table.{fix_row}
use Rattle.hamming.proofs.Entries.{row_is}
use Rattle.hamming.proofs.repair.entry_at.Goals as goal

pub returns-in-Six : goal.returns-in-Six
unfolding fix_row fix_of
returns-in-Six c = rw c.in-Six.is (rw c.from.ensures (row_is 6 c.args.syndrome c.requires))

pub returns-in-Seven : goal.returns-in-Seven
unfolding fix_row fix_of
returns-in-Seven c = rw c.in-Seven.is (rw c.from-in-Seven.ensures (row_is 7 c.args.syndrome c.requires))

pub returns-in-Eight : goal.returns-in-Eight
unfolding fix_row fix_of
returns-in-Eight c = rw c.in-Eight.is (rw c.from-in-Eight.ensures (row_is 8 c.args.syndrome c.requires))
