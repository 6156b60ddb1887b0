use Rattle.std.proofs.Common.{◌+◌, ◌≤◌, length}
use Rattle.omf_making.specs.Made.{looks_of}
use Rattle.omf_making.proofs.costs.looks_of.Given as goal

-- what was added, and what is left
abbrev pub invariant-loop-rest : goal.invariant-loop-rest
invariant-loop-rest l = l.looks + looks_of l.rest ≤ looks_of l.parts

abbrev pub decreases-loop-rest : goal.decreases-loop-rest
decreases-loop-rest l = length l.rest
