use Rattle.omf_frame.specs.Fields.{IsIndex}
use Rattle.omf_records.specs.Inner.FieldReaders.{index_read, index_ok, index_again, index_short}
use Rattle.omf_records.proofs.FieldGives.{field_gives}
use Rattle.omf_records.proofs.field.index.Goals as goal

pub returns : goal.returns
returns c = field_gives IsIndex index_read index_ok index_again index_short c.args.here.wide c.args.here.within c.args.here.bytes.now _ c.args.here.are_bytes c.field.ensures
