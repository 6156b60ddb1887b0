use Rattle.omf_placement.proofs.EntryLaws.{entry-from, entry-to}
use Rattle.omf_placement.proofs.laws.entries_are_read.Goals as goal

pub returns : goal.returns
returns c = λ text e. (entry-from text e, entry-to text e)
