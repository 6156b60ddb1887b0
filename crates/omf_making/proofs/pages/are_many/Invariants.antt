use Rattle.std.proofs.Common.{◌<◌, length}
use Rattle.std.specs.List.{AllByRecursion}
use Rattle.omf_making.specs.Made.{pages_of}
use Rattle.omf_making.proofs.pages.are_many.Given as goal

-- what is left decides
abbrev pub invariant-loop-rest : goal.invariant-loop-rest
invariant-loop-rest l = AllByRecursion (λ p. 65536 < pages_of p l.parts) l.rest → AllByRecursion (λ p. 65536 < pages_of p l.parts) l.sizes

abbrev pub decreases-loop-rest : goal.decreases-loop-rest
decreases-loop-rest l = length l.rest
