use Rattle.omf_records.specs.Inner.Reading.{read_body}
use Rattle.omf_canon.proofs.TakingLaws.{fixups-set, fixups-values}
use Rattle.omf_canon.proofs.writing.Walk.take.Goals as goal

pub take_fixups-requires-clause-values : goal.take_fixups-requires-clause-values
take_fixups-requires-clause-values c =
    let raw = c.args.raw in
    fixups-values raw.kind c.in-Some.subrecords.items (read_body raw.kind raw.body.now) c.in-Some.ensures.read c.requires.read c.requires.values

pub take_fixups-requires-clause-set : goal.take_fixups-requires-clause-set
take_fixups-requires-clause-set c =
    let raw = c.args.raw in
    fixups-set c.args.self.now.threads c.in-Some.subrecords.items (read_body raw.kind raw.body.now) c.in-Some.ensures.read c.requires.read c.requires.set
