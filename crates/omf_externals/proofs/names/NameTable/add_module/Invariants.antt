use Rattle.omf_check.specs.Module.{records_in}
use Rattle.omf_check.specs.WellFormed.{recs}
use Rattle.omf_externals.specs.Names.{public_names, IsNameTable}
use Rattle.omf_placement.proofs.Filling.{IsFilled}
use Rattle.omf_externals.proofs.NameLaws.{listed_names}
use Rattle.omf_externals.proofs.names.NameTable.add_module.Given as goal

-- the names of the records so far are in the table
abbrev pub invariant-loop-rec : goal.invariant-loop-rec
invariant-loop-rec l = IsFilled IsNameTable l.fn.self l.self (listed_names l.local l.rec-iterator) (public_names l.local (recs (records_in l.«module».bytes)))
