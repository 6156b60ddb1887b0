use Rattle.omf_check.proofs.Walked.{Takes}
use Rattle.omf_check.proofs.table.Tables.take_subrecords.Given as goal

abbrev pub invariant-walk : goal.invariant-walk
invariant-walk l = Takes l.fn.self l.left l.in_force l.beyond l.found l.subrecords.items l.fn.subrecords.items

abbrev pub decreases-walk : goal.decreases-walk
decreases-walk l = l.subrecords.size
