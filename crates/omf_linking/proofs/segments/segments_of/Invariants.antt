use Rattle.omf_placement.specs.Derive.{placed_modules}
use Rattle.omf_linking.specs.Segments.{with_images}
use Rattle.omf_linking.proofs.SegmentsLaws.{AreGathered}
use Rattle.omf_linking.proofs.segments.segments_of.Given as goal

-- the segments of the modules so far were added
abbrev pub invariant-loop-j : goal.invariant-loop-j
invariant-loop-j l = AreGathered (with_images (placed_modules l.modules l.placements) l.relocated) l.segments.items l.j
