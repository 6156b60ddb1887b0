use Rattle.std.proofs.Common.{◌≡◌, ◌++◌, drop, length, map}
use Rattle.std.specs.List.{enumerate_from}
use Rattle.omf_check.specs.Module.{records_in}
use Rattle.omf_check.specs.Tables.{segments}
use Rattle.omf_check.specs.WellFormed.{recs}
use Rattle.omf_linking.specs.Space.Segments.{segments_at}
use Rattle.omf_linking.specs.Segments.{commons, image_bytes, module_segment}
use Rattle.omf_linking.proofs.SegmentsLaws.{AreFrom}
use Rattle.omf_linking.proofs.segments.add_module.Given as goal

-- the segments so far were added
abbrev pub invariant-loop-before : goal.invariant-loop-before
invariant-loop-before l =
    let f = module_segment l.member.number l.member.placement.now (image_bytes l.relocated) in
    let m = recs (records_in l.member.«module».now.bytes) in
    record {
      added : AreFrom f l.segments.items l.before (drop l.before (commons m)) (segments_at l.initial.segments.items ++ map f (enumerate_from 1 (commons m)));
      end : l.before-end ≡ length (segments m);
    }
