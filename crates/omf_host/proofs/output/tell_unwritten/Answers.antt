use Rattle.omf_host.proofs.UnwrittenLaws.{told_unwritten}
use Rattle.omf_host.proofs.output.tell_unwritten.Goals as goal

pub returns-clause-told : goal.returns-clause-told
returns-clause-told g c =
    told_unwritten c.report.result c.args.streams.now.name.now c.as_bytes.result.now _ _ _ _ c.in_ok-put_unwritten.ensures c.new-line.ensures.bytes c.as_bytes.ensures.value c.report.ensures.told
