use Rattle.std.specs.Prelude.{length}
use Rattle.omf_check.specs.Module.{records_in}
use Rattle.omf_check.specs.WellFormed.{recs}
use Rattle.omf_canon.proofs.TakingLaws.{IsLeft}
use Rattle.omf_canon.proofs.writing.written.Given as goal

-- what is written, and what the records to come put, is the canonical bytes
abbrev pub invariant-records : goal.invariant-records
invariant-records l = IsLeft (recs (records_in l.module.bytes)) l.walk.out.items l.walk.group l.walk.threads l.left

abbrev pub decreases-records : goal.decreases-records
decreases-records l = length l.left
