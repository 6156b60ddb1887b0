use Rattle.std.proofs.Common.{◌≡◌, ◌+◌, ◌≤◌, length}
use Rattle.omf_making.specs.Made.{pages_of}
use Rattle.omf_making.proofs.pages.is_numbered.Given as goal

-- the pages that are left, and those of the modules that are left
abbrev pub invariant-loop-rest : goal.invariant-loop-rest
invariant-loop-rest l = pages_of l.page l.parts + l.left ≡ 65535 + pages_of l.page l.rest

abbrev pub decreases-loop-rest : goal.decreases-loop-rest
decreases-loop-rest l = length l.rest
