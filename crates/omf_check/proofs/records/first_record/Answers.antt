use Rattle.omf_frame.specs.Framing.{front_record, present}
use Rattle.omf_records.specs.Inner.Seen.{contents_seen, kind_seen}
use Rattle.omf_check.proofs.ListedLaws.{front_of, well_read, rec_is, front_taken, front_short}
use Rattle.omf_check.proofs.records.first_record.Goals as goal

pub view_known-requires-clause-taken : goal.view_known-requires-clause-taken
view_known-requires-clause-taken c = front_taken c.args.bytes.now c.split_record.result.0.kind c.requires c.split_record.ensures.kind

pub view_known-requires-clause-short : goal.view_known-requires-clause-short
view_known-requires-clause-short c = front_short c.args.bytes.now c.split_record.result.0.body.now c.requires c.split_record.ensures.body

pub view_known-requires-clause-spelled : goal.view_known-requires-clause-spelled
view_known-requires-clause-spelled c =
    well_read c.split_record.result.0.kind c.split_record.result.0.body.now (front_record (present c.args.bytes.now))
    (front_of c.args.bytes.now c.requires) c.split_record.ensures.kind c.split_record.ensures.body

pub returns-clause-rec : goal.returns-clause-rec
returns-clause-rec c =
    rec_is c.split_record.result.0.kind (kind_seen c.view_known.result) c.split_record.result.0.body.now (front_record (present c.args.bytes.now)) (contents_seen c.view_known.result)
    (front_of c.args.bytes.now c.requires) c.split_record.ensures.kind c.split_record.ensures.body c.view_known.ensures.kind c.view_known.ensures.read
