use Rattle.std.proofs.Common.{◌≡◌, ◌+◌, drop}
use Rattle.omf_linking.specs.Placing.{all_given}
use Rattle.omf_linking.proofs.PlacesLaws.{with_front}
use Rattle.omf_linking.proofs.placing.segments_given.Given as goal

-- the places so far, and those of the other segments
abbrev pub invariant-loop-k : goal.invariant-loop-k
invariant-loop-k l = with_front l.segments.items (all_given (l.k + 1) (drop l.k l.places)) ≡ all_given 1 l.places
