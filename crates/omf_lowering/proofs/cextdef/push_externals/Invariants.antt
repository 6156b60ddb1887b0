use Rattle.omf_lowering.specs.Externals.{external_record, named}
use Rattle.omf_lowering.proofs.Steps.{Pushed}
use Rattle.omf_lowering.proofs.cextdef.push_externals.Given as goal

-- the records of the externals so far are appended
abbrev pub invariant-loop-external : goal.invariant-loop-external
invariant-loop-external l = Pushed (named l.tables) external_record l.fn.records.items l.records.items l.externals l.external-index
