use Rattle.omf_frame.specs.Fields.{IsName}
use Rattle.omf_records.specs.Inner.FieldReaders.{name_read, name_ok, name_again, name_short}
use Rattle.omf_records.proofs.FieldGives.{field_gives}
use Rattle.omf_records.proofs.field.name.Goals as goal

pub returns : goal.returns
returns c = field_gives IsName name_read name_ok name_again name_short c.args.here.wide c.args.here.within c.args.here.bytes.now _ c.args.here.are_bytes c.field.ensures
