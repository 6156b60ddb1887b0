use Rattle.std.proofs.Common.{length}
use Rattle.omf_explicit.specs.Modules.{Begins}
use Rattle.omf_explicit.proofs.record.module_of.Given as goal

-- the records so far are no MODENDs, and the others are left
abbrev pub invariant-loop-record : goal.invariant-loop-record
invariant-loop-record l = Begins l.bytes l.records.items l.rest

abbrev pub decreases-loop-record : goal.decreases-loop-record
decreases-loop-record l = length l.rest
