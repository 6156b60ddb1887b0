use Rattle.std.proofs.Common.{◌≡◌}
use Rattle.omf_check.specs.Module.{records_in}
use Rattle.omf_check.specs.WellFormed.{recs}
use Rattle.omf_placement.specs.Derive.{PlacedModule}
use Rattle.omf_warnings.specs.Wide.{wide_in_members}
use Rattle.omf_warnings.proofs.wide.in_members.Given as goal

-- the first of those that are left is that of all
abbrev pub invariant-loop-member : goal.invariant-loop-member
invariant-loop-member l = let m : PlacedModule = (recs (records_in l.part.«module».now.bytes), l.part.placement.now) in wide_in_members l.part.number m l.group l.member-iterator ≡ wide_in_members l.part.number m l.group l.fn.members
