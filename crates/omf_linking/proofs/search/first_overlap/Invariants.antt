use Rattle.std.proofs.Common.{take}
use Rattle.omf_linking.specs.Inner.Searching.{listed}
use Rattle.omf_linking.proofs.SpaceLaws.SearchLaws.{IsLowestIn}
use Rattle.omf_linking.proofs.search.first_overlap.Given as goal

-- the lowest overlap where bytes of the segments so far begin
abbrev pub invariant-loop-n : goal.invariant-loop-n
invariant-loop-n l = let all = listed l.segments in IsLowestIn all (take l.n all) l.lowest
