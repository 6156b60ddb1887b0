use Rattle.std.proofs.Common.{◌+◌, refl, sym, subst}
use Rattle.std.specs.Prelude.{All}
use Rattle.omf_finding.specs.Inner.Nearing.{AreNearOf}
use Rattle.omf_finding.specs.Inner.Shaping.{AreIntervals, IsWhole}
use Rattle.omf_finding.specs.Inner.Walking.{byte_in}
use Rattle.omf_finding.proofs.NearLaws.{nears-first, nears-last, nears-next}
use Rattle.omf_finding.proofs.ShapeLaws.{intervals-whole}
use Rattle.omf_finding.proofs.nearing.Indexed.near_segments.Goals as goal

pub loop-index-init : goal.loop-index-init
loop-index-init c =
    let bytes = byte_in c.args.pattern.now in
    let program = c.args.self.now.program.now in
    subst (AreNearOf bytes program c.args.most 0) (sym c.new-nears.ensures.items) (nears-first bytes program c.args.most)

pub near_segment-requires-clause-whole : goal.near_segment-requires-clause-whole
near_segment-requires-clause-whole c =
    let byte = byte_in c.args.pattern.now (c.loop-index.index + 1) in
    subst (All IsWhole) (sym c.deref.ensures.value) (intervals-whole byte c.in_ok-intervals.intervals.items c.in_ok-intervals.ensures)

pub loop-index-preserved : goal.loop-index-preserved
loop-index-preserved c =
    let bytes = byte_in c.args.pattern.now in
    let program = c.args.self.now.program.now in
    let index = c.loop-index.index in
    let are = subst (AreIntervals (bytes (index + 1))) (sym c.deref.ensures.value) c.in_ok-intervals.ensures in
    let one = c.in_ok-near_segment.ensures (bytes (index + 1)) are in
    nears-next bytes program c.args.most index (index + 1) refl c.loop-index.nears.items c.push_near.new.nears.items c.in_ok-near_segment.field-0 one c.in_ok-push_near.ensures c.loop-index.invariant

pub returns : goal.returns
returns c =
    nears-last (byte_in c.args.pattern.now) c.args.self.now.program.now c.args.most c.loop-index.index c.args.count c.loop-index.nears.items c.loop-index-test.false c.loop-index.invariant
