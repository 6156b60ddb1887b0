use Rattle.std.proofs.Common.{◌≡◌, ◌-◌, ◌<◌, length}
use Rattle.omf_library.specs.Library.{page_size}
use Rattle.omf_library.specs.LibraryMembers.{AreReadTo}
use Rattle.omf_library.proofs.judged.library_members.Given as goal

-- the members so far, after which the next page is
abbrev pub invariant-loop-at : goal.invariant-loop-at
invariant-loop-at l = record {
  paged : l.page ≡ page_size l.bytes;
  filled : 0 < l.page;
  low : l.page < 65539;
  read : AreReadTo l.profile l.bytes l.members.items l.at;
}

abbrev pub decreases-loop-at : goal.decreases-loop-at
decreases-loop-at l = length l.bytes - l.at
