use Rattle.omf_check.specs.Module.{records_in}
use Rattle.omf_check.specs.WellFormed.{recs}
use Rattle.omf_map.specs.Inner.PublicAddresses.{IsTable}
use Rattle.omf_map.specs.Addresses.{publics_of}
use Rattle.omf_placement.proofs.Filling.{IsFilled}
use Rattle.omf_map.proofs.MapLaws.{listed_publics}
use Rattle.omf_map.proofs.publics.PublicAddresses.add_module.Given as goal

-- the publics of the records so far are in the table
abbrev pub invariant-loop-rec : goal.invariant-loop-rec
invariant-loop-rec l = IsFilled IsTable l.fn.self.by_name l.self.by_name (listed_publics l.local l.segments l.rec-iterator) (publics_of l.local (recs (records_in l.«module».bytes), l.segments))
