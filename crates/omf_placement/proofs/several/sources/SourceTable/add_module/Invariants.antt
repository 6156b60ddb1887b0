use Rattle.omf_check.specs.Module.{records_in}
use Rattle.omf_check.specs.WellFormed.{recs}
use Rattle.omf_placement.specs.Inner.Linkage.{IsSourceTable, sources}
use Rattle.omf_placement.proofs.Filling.{IsFilled}
use Rattle.omf_placement.proofs.SourceLaws.{listed_sources}
use Rattle.omf_placement.proofs.several.sources.SourceTable.add_module.Given as goal

-- the publics of the records so far are in the table
abbrev pub invariant-loop-rec : goal.invariant-loop-rec
invariant-loop-rec l = IsFilled IsSourceTable l.fn.self l.self (listed_sources l.local l.number l.rec-iterator) (sources l.local l.number (recs (records_in l.module.bytes)))
