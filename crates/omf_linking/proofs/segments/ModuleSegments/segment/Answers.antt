use Rattle.std.proofs.Common.{◌≡◌, ◌∙◌, ◌+◌, ap, drop, length, sym}
use Rattle.std.specs.Prelude.{List, Some, flat_map, slice_get}
use Rattle.std.specs.List.{enumerate_from}
use Rattle.omf_check.specs.Module.{records_in}
use Rattle.omf_check.specs.Tables.{segments}
use Rattle.omf_check.specs.WellFormed.{recs}
use Rattle.omf_placement.specs.Derive.{placed_modules}
use Rattle.omf_records.specs.Values.{Rec}
use Rattle.omf_placement.proofs.ListLaws.{entry-at}
use Rattle.omf_linking.specs.Space.Segments.{segment_at}
use Rattle.omf_linking.specs.Segments.{ModuleBytes, all_segments, commons, image_bytes, module_segment, module_segments, with_images}
use Rattle.omf_linking.proofs.SegmentsLaws.{next_module, next_of, no_module, segment_here, segment_later, some_left, placed_same}
use Rattle.omf_linking.proofs.segments.ModuleSegments.segment.Goals as goal

pub returns-then-left-count : goal.returns-then-left-count
returns-then-left-count c =
    let s = c.args.self.now in
    let j = c.loop-j.j in
    let m = c.module-item.result in
    let pl = c.index-self-j.result in
    let r = c.index-self-j-then-left-count.result in
    let ms = with_images (placed_modules s.modules.now s.placements.now) s.relocated.now in
    let next = next_module s.modules.now s.placements.now s.relocated.now j m pl r c.module-item.is c.index-self-j.is c.index-self-j-then-left-count.is c.loop-j-test.true c.requires.holds.1 c.requires.holds.2 in
    let here : slice_get (all_segments ms) c.args.n ≡ Some (module_segment j pl (image_bytes r) (c.loop-j.left + 1, c.common_at-common.result)) =
    segment_here ms j ((recs (records_in m.bytes), pl), image_bytes r) next c.loop-j.left c.from-count.result c.common_at-common.result (slice_get (all_segments ms) c.args.n)
    (c.from-count.ensures ∙ c.segments.ensures.count) c.if-left-count.true (sym (entry-at (commons (recs (records_in m.bytes))) c.loop-j.left) ∙ c.common_at-common.ensures) c.loop-j.invariant
    in
    let placed : segment_at c.placed_segment.result ≡ module_segment j pl (image_bytes r) (c.loop-j.left + 1, c.common_at-common.result) = placed_same s.placements.now s.relocated.now j pl r _ _ c.index-self-j.is c.index-self-j-then-left-count.is c.placed_segment.ensures in
    here ∙ ap Some (sym placed)

pub loop-j-preserved : goal.loop-j-preserved
loop-j-preserved c =
    let s = c.args.self.now in
    let j = c.loop-j.j in
    let ms = with_images (placed_modules s.modules.now s.placements.now) s.relocated.now in
    let next = next_of s.modules.now s.placements.now s.relocated.now j c.module-item.result c.module-item.is c.loop-j-test.true c.requires.holds.1 c.requires.holds.2 in
    let many = c.from-count.ensures ∙ c.segments.ensures.count ∙ ap (λ (m : List Rec). length (segments m)) (sym next.1) in
    segment_later ms j next.0 next.2 c.loop-j.left c.from-count.result (slice_get (all_segments ms) c.args.n) many c.if-left-count.false c.loop-j.invariant

pub unreachable-requires : goal.unreachable-requires
unreachable-requires c =
    let s = c.args.self.now in
    let j = c.loop-j.j in
    let ms = with_images (placed_modules s.modules.now s.placements.now) s.relocated.now in
    some_left (flat_map module_segments (enumerate_from j (drop j ms))) (all_segments ms) c.loop-j.left c.args.n c.loop-j.invariant c.requires.within
    (ap (λ (xs : List ModuleBytes). flat_map module_segments (enumerate_from j xs)) (no_module s.modules.now s.placements.now s.relocated.now j c.loop-j-test.false))
