use Rattle.std.proofs.Common.{◌≡◌, ◌+◌, ◌++◌, drop}
use Rattle.std.specs.Prelude.{filter_map}
use Rattle.std.specs.List.{enumerate_from}
use Rattle.omf_linking.specs.Placing.{stored_segment}
use Rattle.omf_linking.proofs.placing.stored_places.Given as goal

-- the segments so far, and the others
abbrev pub invariant-loop-k : goal.invariant-loop-k
invariant-loop-k l = l.segments.items ++ filter_map (stored_segment l.placement.segments) (enumerate_from (l.k + 1) (drop l.k l.given.stored)) ≡ filter_map (stored_segment l.placement.segments) (enumerate_from 1 l.given.stored)
