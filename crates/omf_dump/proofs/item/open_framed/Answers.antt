use Rattle.omf_dump.specs.Render.{checksum_text, head_text}
use Rattle.omf_dump.proofs.DeltaLaws.{both_written}
use Rattle.omf_dump.proofs.item.open_framed.Goals as goal

pub returns : goal.returns
returns c =
    let raw = c.args.raw.now in
    both_written c.small.result c.args.text.now.items c.open_record.new.text.items c.small.new.text.items (head_text c.args.format raw.number raw.start raw.kind) (checksum_text c.args.format c.args.checksum) c.in_ok-open_record.ensures c.small.ensures
