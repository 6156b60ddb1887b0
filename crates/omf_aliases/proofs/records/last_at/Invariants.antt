use Rattle.std.proofs.Common.{length}
use Rattle.omf_aliases.proofs.AliasLaws.{IsAtRecord}
use Rattle.omf_aliases.proofs.records.last_at.Given as goal

-- what is left begins at a record
abbrev pub invariant-records : goal.invariant-records
invariant-records l = IsAtRecord l.«module».bytes l.rest

abbrev pub decreases-records : goal.decreases-records
decreases-records l = length l.rest
