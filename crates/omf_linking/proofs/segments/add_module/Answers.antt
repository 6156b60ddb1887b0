use Rattle.std.proofs.Common.{◌+◌, ◌∙◌, ap, sym, arith}
use Rattle.std.specs.List.{enumerate_from}
use Rattle.omf_check.specs.Module.{records_in}
use Rattle.omf_check.specs.WellFormed.{recs}
use Rattle.std.proofs.lemmas.List.{drop_all}
use Rattle.omf_placement.proofs.ListLaws.{next-at, more-mapped, all-mapped, entry-at}
use Rattle.omf_linking.specs.Segments.{commons, image_bytes, module_segment}
use Rattle.omf_linking.specs.Space.Segments.{segment_at}
use Rattle.omf_linking.proofs.SegmentsLaws.{length_commons}
use Rattle.omf_linking.proofs.segments.add_module.Goals as goal

pub loop-before-preserved : goal.loop-before-preserved
loop-before-preserved c =
    let m = recs (records_in c.args.member.now.«module».now.bytes) in
    let f = module_segment c.args.member.now.number c.args.member.now.placement.now (image_bytes c.args.relocated.now) in
    let j = c.loop-before.before in
    let common = c.common_at-common.result in
    let next = ap (enumerate_from (j + 1)) (next-at (commons m) j common (sym (entry-at (commons m) j) ∙ c.common_at-common.ensures)) in
    record {
      added = more-mapped segment_at f c.loop-before.segments.items c.push.new.self.items c.placed_segment-segment.result _ _ (j + 1, common) _
          c.in_ok-push.ensures.items next c.placed_segment-segment.ensures c.loop-before.invariant.added;
      end = c.loop-before.invariant.end;
    }

pub returns : goal.returns
returns c =
    let m = recs (records_in c.args.member.now.«module».now.bytes) in
    let f = module_segment c.args.member.now.number c.args.member.now.placement.now (image_bytes c.args.relocated.now) in
    let j = c.loop-before.before in
    all-mapped segment_at f c.loop-before.segments.items _ _
    (ap (enumerate_from (j + 1)) (drop_all j (commons m) (omega (arith, c.loop-before-test.false, c.segments-before-end.ensures.count, length_commons m)))) c.loop-before.invariant.added
