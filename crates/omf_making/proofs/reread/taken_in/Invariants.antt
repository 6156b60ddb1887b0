use Rattle.std.proofs.Common.{◌≡◌, ◌-◌, ◌<◌, length}
use Rattle.omf_library.specs.Library.{HasHeader, page_size}
use Rattle.omf_making.specs.Taken.{AreTakenMembers}
use Rattle.omf_making.proofs.reread.taken_in.Given as goal

-- the members so far, after which the next page is
abbrev pub invariant-loop-at : goal.invariant-loop-at
invariant-loop-at l = record {
  header : HasHeader l.bytes;
  paged : l.page ≡ page_size l.bytes;
  filled : 0 < l.page;
  low : l.page < 65539;
  members_are : AreTakenMembers l.profile l.bytes l.page l.page l.members.items l.at;
}

abbrev pub decreases-loop-at : goal.decreases-loop-at
decreases-loop-at l = length l.bytes - l.at
