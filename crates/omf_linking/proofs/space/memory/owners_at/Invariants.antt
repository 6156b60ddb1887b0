use Rattle.std.proofs.Common.{◌≡◌, drop}
use Rattle.omf_linking.specs.Space.Memory.{pieces, shares, overlap}
use Rattle.omf_linking.specs.Inner.Laying.{overlap_with}
use Rattle.omf_linking.proofs.space.memory.owners_at.Given as goal

-- the first two of those that are left, after what is known, are those of all
abbrev pub invariant-loop-stretch : goal.invariant-loop-stretch
invariant-loop-stretch l = overlap_with l.first (shares (pieces (drop l.stretch-index l.stretches)) l.address) ≡ overlap (shares (pieces l.stretches) l.address)
