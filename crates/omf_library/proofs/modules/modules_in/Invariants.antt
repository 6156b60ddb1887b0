use Rattle.std.proofs.Common.{◌≡◌, ◌-◌, ◌<◌, length}
use Rattle.omf_library.specs.Inner.Modules.{AreFirst}
use Rattle.omf_library.specs.Library.{page_size}
use Rattle.omf_library.proofs.modules.modules_in.Given as goal

-- the modules so far, after whose members the next page is
abbrev pub invariant-loop-at : goal.invariant-loop-at
invariant-loop-at l = record {
  paged : l.page ≡ page_size l.bytes;
  filled : 0 < l.page;
  low : l.page < 65539;
  first : AreFirst l.profile l.bytes l.modules.items l.at;
}

abbrev pub decreases-loop-at : goal.decreases-loop-at
decreases-loop-at l = length l.bytes - l.at
