use Rattle.std.proofs.Common.{◌∙◌, ap}
use Rattle.omf_frame.specs.Framing.{front_record, present}
use Rattle.omf_image.specs.Limits.{profile_limits}
use Rattle.omf_check.proofs.ListedLaws.{front_of, front_short, front_taken, well_read}
use Rattle.omf_communals.specs.Inner.Writing.{SoFar}
use Rattle.omf_communals.proofs.WalkLaws.{goes-on, starts, walk-ends, walk-starts}
use Rattle.omf_communals.proofs.communals.bytes_with.Goals as goal

pub loop-number-init : goal.loop-number-init
loop-number-init c = walk-starts c.args.«module».now.profile profile_limits c.args.«module».now.bytes c.bytes-left.result.now c.new-replacing.result c.bytes-left.ensures.well_formed c.bytes-left.ensures.bytes c.new-replacing.ensures

pub split_record-requires : goal.split_record-requires
split_record-requires c =
    let l = c.loop-number in
    starts c.args.«module».now.bytes l._number l.replacing l.left.now l.invariant c.record_count-number-end.result c.record_count-number-end.ensures c.loop-number-test.true

pub put-requires-clause-taken : goal.put-requires-clause-taken
put-requires-clause-taken c =
    let l = c.loop-number in
    let s = starts c.args.«module».now.bytes l._number l.replacing l.left.now l.invariant c.record_count-number-end.result c.record_count-number-end.ensures c.loop-number-test.true in
    front_taken l.left.now c.split_record.result.0.kind s c.split_record.ensures.kind

pub put-requires-clause-short : goal.put-requires-clause-short
put-requires-clause-short c =
    let l = c.loop-number in
    let s = starts c.args.«module».now.bytes l._number l.replacing l.left.now l.invariant c.record_count-number-end.result c.record_count-number-end.ensures c.loop-number-test.true in
    front_short l.left.now c.split_record.result.0.body.now s c.split_record.ensures.body

pub put-requires-clause-spelled : goal.put-requires-clause-spelled
put-requires-clause-spelled c =
    let l = c.loop-number in
    let s = starts c.args.«module».now.bytes l._number l.replacing l.left.now l.invariant c.record_count-number-end.result c.record_count-number-end.ensures c.loop-number-test.true in
    let raw = c.split_record.result.0 in
    well_read raw.kind raw.body.now (front_record (present l.left.now)) (front_of l.left.now s) c.split_record.ensures.kind c.split_record.ensures.body

pub loop-number-preserved : goal.loop-number-preserved
loop-number-preserved c =
    let l = c.loop-number in
    let raw = c.split_record.result.0 in
    goes-on c.args.«module».now.bytes l._number l.replacing l.left.now l.invariant c.record_count-number-end.result c.record_count-number-end.ensures c.loop-number-test.true
    c.put.new.self raw.kind raw.body.now c.split_at.result.0.now c.split_record.result.1.now c.split_record.ensures.kind c.split_record.ensures.body c.split_record.ensures.rest c.split_at.ensures.front c.in_ok-put.ensures

pub returns : goal.returns
returns c =
    let l = c.loop-number in
    ap (λ (x : SoFar). x.bytes) c.replacing-2.view_is
    ∙ walk-ends c.args.«module».now.bytes l._number c.record_count-number-end.result l.replacing l.left.now l.invariant c.record_count-number-end.ensures c.loop-number-test.false
