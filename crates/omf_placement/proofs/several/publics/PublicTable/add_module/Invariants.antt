use Rattle.omf_check.specs.Module.{records_in}
use Rattle.omf_check.specs.WellFormed.{recs}
use Rattle.omf_placement.specs.Derive.{publics}
use Rattle.omf_placement.specs.Inner.PublicTable.{IsTable}
use Rattle.omf_placement.proofs.Filling.{IsFilled}
use Rattle.omf_placement.proofs.TableLaws.{listed_publics}
use Rattle.omf_placement.proofs.several.publics.PublicTable.add_module.Given as goal

-- the publics of the records so far are in the table
abbrev pub invariant-loop-rec : goal.invariant-loop-rec
invariant-loop-rec l = IsFilled IsTable l.fn.self.by_name l.self.by_name (listed_publics l.local l.placement l.rec-iterator) (publics l.local (recs (records_in l.module.bytes), l.placement))
