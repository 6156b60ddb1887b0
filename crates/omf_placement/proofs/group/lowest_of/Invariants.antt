use Rattle.std.proofs.Common.{◌≡◌}
use Rattle.std.specs.Prelude.{option_and_then}
use Rattle.omf_placement.specs.Placement.{lowest, members_placed}
use Rattle.omf_placement.proofs.GroupLaws.{lowest_after}
use Rattle.omf_placement.proofs.group.lowest_of.Given as goal

-- the lowest so far, and the remaining members
abbrev pub invariant-loop-member : goal.invariant-loop-member
invariant-loop-member l = lowest_after l.lowest (members_placed l.segments l.member-iterator) ≡ option_and_then lowest (members_placed l.segments l.fn.members)
