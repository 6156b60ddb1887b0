use Rattle.std.proofs.Common.{◌≡◌, ◌<◌, length, get_or, rules}
use Rattle.omf_lowering.specs.Externals.{external_record, named}
use Rattle.omf_lowering.proofs.Steps.{pushed_more}
use Rattle.omf_lowering.proofs.cextdef.push_externals.Goals as goal

pub loop-external-preserved : goal.loop-external-preserved
loop-external-preserved c =
    let xs = c.args.externals.now in
    let f = named c.args.tables.now in
    let low : c.loop-external.external-index < length xs = search rules in
    let here : c.external-item.result ≡ get_or xs c.loop-external.external-index c.external-item.result = search rules in
    let e = c.in_ok-push_external.ensures.ok in
    pushed_more f external_record c.args.records.now.items c.loop-external.records.items c.push_external.new.records.items xs c.loop-external.external-index c.external-item.result c.external-item.result e.0 low here e.1 e.2 c.loop-external.invariant
