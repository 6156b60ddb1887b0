use Rattle.std.proofs.Common.{◌≡◌, ◌+◌, refl, arith, rules}
use Rattle.std.specs.Prelude.{Some}
use Rattle.omf_check.specs.Module.{records_in}
use Rattle.omf_check.specs.Tables.{segments, entry}
use Rattle.omf_check.specs.WellFormed.{recs}
use Rattle.omf_map.specs.MapText.{segment_line}
use Rattle.omf_placement.proofs.StepLaws.{next_entry, one_more, all_printed, none_left}
use Rattle.omf_map.proofs.listing.print_segments.Goals as goal

pub loop-before-init : goal.loop-before-init
loop-before-init c = record { whole = refl }

pub loop-before-preserved : goal.loop-before-preserved
loop-before-preserved c =
    let m = recs (records_in c.args.«module».now.bytes) in
    let told : entry (segments m) (c.loop-before.before + 1) ≡ Some c.in-Some.segment = search rules in
    one_more (segment_line c.args.number (m, c.args.addresses.now)) (segments m) c.loop-before.before _ _ c.in-Some.segment _
    (next_entry (segments m) c.loop-before.before c.in-Some.segment told) c.in_ok-print_segment_of.ensures c.loop-before.invariant

pub returns : goal.returns
returns c =
    let m = recs (records_in c.args.«module».now.bytes) in
    all_printed (segment_line c.args.number (m, c.args.addresses.now)) (segments m) c.loop-before.before _ _
    (none_left (segments m) c.loop-before.before (omega (arith, c.loop-before-test.false, c.segments-before-end.ensures.count))) c.loop-before.invariant
