use Rattle.std.proofs.Common.{◌≡◌, ◌++◌}
use Rattle.omf_check.specs.Module.{records_in}
use Rattle.omf_check.specs.WellFormed.{recs}
use Rattle.omf_layout.specs.Wants.{raised, raised_by}
use Rattle.omf_layout.proofs.Gathered.{given_by}
use Rattle.omf_layout.proofs.raised.indices_of.Given as goal

-- those of the records so far, and those that are left
abbrev pub invariant-loop-rec : goal.invariant-loop-rec
invariant-loop-rec l = l.indices.items ++ given_by raised_by l.rec-iterator ≡ raised (recs (records_in l.«module».bytes))
