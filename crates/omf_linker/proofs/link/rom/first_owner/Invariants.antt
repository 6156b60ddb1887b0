use Rattle.std.proofs.Common.{◌≡◌, drop}
use Rattle.omf_linking.specs.Space.Segments.{segments_at}
use Rattle.omf_linker.specs.Link.Rom.{first_owner}
use Rattle.omf_linker.proofs.link.rom.first_owner.Given as goal

-- the segments so far have no byte there
abbrev pub invariant-loop-segment : goal.invariant-loop-segment
invariant-loop-segment l = first_owner (segments_at l.segments) l.address ≡ first_owner (segments_at (drop l.segment-index l.segments)) l.address
