use Rattle.std.proofs.Common.{◌+◌, ◌≤◌, length}
use Rattle.omf_making.specs.Made.{names_of}
use Rattle.omf_making.proofs.costs.names_of.Given as goal

-- what was added, and what is left
abbrev pub invariant-loop-rest : goal.invariant-loop-rest
invariant-loop-rest l = l.count + names_of l.rest ≤ names_of l.parts

abbrev pub decreases-loop-rest : goal.decreases-loop-rest
decreases-loop-rest l = length l.rest
