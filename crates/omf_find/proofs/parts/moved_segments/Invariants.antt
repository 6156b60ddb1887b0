use Rattle.std.proofs.Common.{take}
use Rattle.omf_find.specs.Parts.{AreKept}
use Rattle.omf_find.proofs.parts.moved_segments.Given as goal

-- the segments so far
abbrev pub invariant-loop-before : goal.invariant-loop-before
invariant-loop-before l = AreKept l.found.absent 1 (take l.before l.places) l.segments.items
