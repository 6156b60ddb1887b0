use Rattle.std.proofs.Common.{◌≡◌, ◌+◌, [], drop}
use Rattle.omf_check.specs.Module.{records_in}
use Rattle.omf_check.specs.WellFormed.{recs}
use Rattle.omf_linking.specs.Placing.{places_given}
use Rattle.omf_linking.proofs.PlacesLaws.{framed}
use Rattle.omf_linking.proofs.placing.places_given.Given as goal

-- the frames of the groups so far, and those of the other groups, with all segments at their places
abbrev pub invariant-loop-k : goal.invariant-loop-k
invariant-loop-k l = let m = recs (records_in l.«module».bytes) in record {
  all : framed l.number m l.placement (l.k + 1) (drop l.k l.given.groups) ≡ places_given l.number m l.given;
  none : l.placement.externals ≡ [];
}
