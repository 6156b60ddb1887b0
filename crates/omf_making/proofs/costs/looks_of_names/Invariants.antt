use Rattle.std.proofs.Common.{◌+◌, ◌≤◌, length}
use Rattle.omf_making.specs.Made.{looks_of_names}
use Rattle.omf_making.proofs.costs.looks_of_names.Given as goal

-- what was added, and what is left
abbrev pub invariant-loop-rest : goal.invariant-loop-rest
invariant-loop-rest l = l.looks + looks_of_names l.rest ≤ looks_of_names l.names

abbrev pub decreases-loop-rest : goal.decreases-loop-rest
decreases-loop-rest l = length l.rest
