use Rattle.std.proofs.Common.{◌≡◌, ◌<◌, length, get_or, rules}
use Rattle.omf_frame.specs.Framing.{raw_bytes}
use Rattle.omf_explicit.specs.Explicit.{plain_record}
use Rattle.omf_explicit.proofs.WalkSteps.{maps_more}
use Rattle.omf_explicit.proofs.writing.put_all.Goals as goal

pub loop-record-preserved : goal.loop-record-preserved
loop-record-preserved c =
    let rs = c.args.records.now in
    let low : c.loop-record.record-index < length rs = search rules in
    let here : c.record-item.result ≡ get_or rs c.loop-record.record-index c.record-item.result = search rules in
    maps_more (plain_record c.args.table.now) raw_bytes c.loop-record.out.items _ _ rs c.loop-record.record-index c.record-item.result c.record-item.result low here c.in_ok-put_plain.ensures c.loop-record.invariant
