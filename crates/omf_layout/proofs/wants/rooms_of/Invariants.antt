use Rattle.std.proofs.Common.{◌≡◌, ◌++◌}
use Rattle.omf_check.specs.Module.{records_in}
use Rattle.omf_check.specs.WellFormed.{recs}
use Rattle.omf_layout.specs.Wants.{rooms, rooms_in}
use Rattle.omf_layout.proofs.Gathered.{given_by}
use Rattle.omf_layout.proofs.wants.rooms_of.Given as goal

-- those of the records so far, and those that are left
abbrev pub invariant-loop-rec : goal.invariant-loop-rec
invariant-loop-rec l = l.rooms.items ++ given_by rooms_in l.rec-iterator ≡ rooms (recs (records_in l.«module».bytes))
