use Rattle.omf_check.specs.Module.{records_in}
use Rattle.omf_check.specs.WellFormed.{recs}
use Rattle.omf_externals.specs.Names.{public_names}
use Rattle.omf_externals.specs.Unresolved.{IsByName, rows_in}
use Rattle.omf_placement.proofs.Filling.{IsFilled}
use Rattle.omf_externals.proofs.NameLaws.{listed_names}
use Rattle.omf_externals.proofs.by_name.ByName.add_module.Given as goal

-- the publics of the records so far are in the table
abbrev pub invariant-loop-rec : goal.invariant-loop-rec
invariant-loop-rec l = IsFilled IsByName l.fn.self.spots l.self.spots (rows_in l.number (listed_names l.local l.rec-iterator)) (rows_in l.number (public_names l.local (recs (records_in l.«module».bytes))))
