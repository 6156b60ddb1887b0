use Rattle.std.proofs.Common.{◌≡◌, ◌+◌, length}
use Rattle.omf_making.specs.Made.{bytes_of}
use Rattle.omf_making.proofs.costs.are_short.Given as goal

-- the bytes that may still come, and those of the modules that are left
abbrev pub invariant-loop-rest : goal.invariant-loop-rest
invariant-loop-rest l = bytes_of l.parts + l.left ≡ l.most + bytes_of l.rest

abbrev pub decreases-loop-rest : goal.decreases-loop-rest
decreases-loop-rest l = length l.rest
