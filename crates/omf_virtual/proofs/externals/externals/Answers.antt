use Rattle.std.proofs.Common.{◌≡◌, ◌<◌, length, get_or, rules}
use Rattle.omf_explicit.proofs.WalkSteps.{gives_more}
use Rattle.omf_virtual.specs.Virtual.{externals_in}
use Rattle.omf_virtual.proofs.externals.externals.Goals as goal

pub loop-record-preserved : goal.loop-record-preserved
loop-record-preserved c =
    let rs = c.args.records.now in
    let low : c.loop-record.record-index < length rs = search rules in
    let here : c.record-item.result ≡ get_or rs c.loop-record.record-index c.record-item.result = search rules in
    gives_more externals_in c.loop-record.all.items _ _ rs c.loop-record.record-index c.record-item.result c.record-item.result low here c.in_ok-push_of_record.ensures c.loop-record.invariant
