use Rattle.std.proofs.Common.{◌≡◌, ◌+◌, ◌<◌, arith, length, rules}
use Rattle.std.specs.Prelude.{Some}
use Rattle.std.specs.List.{enumerate_from}
use Rattle.omf_check.specs.Module.{records_in}
use Rattle.omf_check.specs.Tables.{entry, names, segments}
use Rattle.omf_check.specs.WellFormed.{recs}
use Rattle.omf_trimming.specs.Inner.Reaching.{root_if}
use Rattle.omf_placement.proofs.StepLaws.{next_entry}
use Rattle.omf_trimming.proofs.SegmentLaws.{all_taken, one_more}
use Rattle.omf_trimming.proofs.RootLaws.{entry-there, roots-start}
use Rattle.omf_trimming.proofs.reaching.roots.push_roots.Goals as goal

pub loop-before-init : goal.loop-before-init
loop-before-init c =
    let m = recs (records_in c.args.checked.now.bytes) in
    roots-start c.args.left_out (names m) c.args.«module» (enumerate_from 1 (segments m)) c.args.found.now.items c.push.new.self.items c.in_ok-push.ensures.items

pub unreachable-requires : goal.unreachable-requires
unreachable-requires c =
    let m = recs (records_in c.args.checked.now.bytes) in
    let low : c.loop-before.before < length (segments m) = omega (arith, c.loop-before-test.true, c.segments-before-end.ensures.count) in
    entry-there (segments m) c.loop-before.before c.segment.result low c.segment.ensures c.in_default.is

pub loop-before-preserved : goal.loop-before-preserved
loop-before-preserved c =
    let m = recs (records_in c.args.checked.now.bytes) in
    let told : entry (segments m) (c.loop-before.before + 1) ≡ Some c.in-Some.info = search rules in
    one_more (root_if c.args.left_out (names m) c.args.«module») (segments m) c.loop-before.before _ _ c.in-Some.info _
    (next_entry (segments m) c.loop-before.before c.in-Some.info told) c.in_ok-push_root.ensures c.loop-before.invariant

pub returns : goal.returns
returns c =
    let m = recs (records_in c.args.checked.now.bytes) in
    all_taken (root_if c.args.left_out (names m) c.args.«module») (segments m) c.loop-before.before _ _ (omega (arith, c.loop-before-test.false, c.segments-before-end.ensures.count)) c.loop-before.invariant
