use Rattle.std.proofs.Common.{◌≡◌, drop}
use Rattle.omf_linking.specs.Space.Memory.{overlap}
use Rattle.omf_linking.specs.Space.Segments.{segment_shares}
use Rattle.omf_linking.specs.Inner.Laying.{overlap_with}
use Rattle.omf_linking.specs.Inner.Searching.{listed}
use Rattle.omf_linking.proofs.search.owners_at.Given as goal

-- the first two of those that are left, after what is known, are those of all
abbrev pub invariant-loop-n : goal.invariant-loop-n
invariant-loop-n l = let all = listed l.segments in overlap_with l.first (segment_shares (drop l.n all) l.address) ≡ overlap (segment_shares all l.address)
