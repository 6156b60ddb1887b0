use Rattle.std.proofs.Common.{◌≡◌, ◌++◌}
use Rattle.omf_check.specs.Module.{records_in}
use Rattle.omf_check.specs.WellFormed.{recs}
use Rattle.omf_making.specs.Names.{names_seen, recorded_names}
use Rattle.omf_making.proofs.NameLaws.{defined_from, in_order}
use Rattle.omf_making.proofs.names.recorded_names.Given as goal

-- those of the records so far, of the last one, and of those that are left
abbrev pub invariant-loop-rec : goal.invariant-loop-rec
invariant-loop-rec l = names_seen l.names.items ++ defined_from (names_seen l.last.items) (in_order l.rec-iterator) ≡ recorded_names (recs (records_in l.«module».bytes))
