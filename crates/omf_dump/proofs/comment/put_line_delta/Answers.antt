use Rattle.omf_dump.proofs.DeltaLaws.{line_written}
use Rattle.omf_dump.proofs.comment.put_line_delta.Goals as goal

pub returns-in-len2-up : goal.returns-in-len2-up
returns-in-len2-up c =
    line_written c.signed.result c.args.text.now.items c.signed.new.text.items c.args.format c.args.bytes.now c.delta_of.result c.in-len2-up.len_at_least c.delta_of.ensures c.signed.ensures
