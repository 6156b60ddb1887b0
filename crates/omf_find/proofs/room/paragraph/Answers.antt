use Rattle.omf_find.proofs.RoomLaws.{paragraph_is}
use Rattle.omf_find.proofs.room.paragraph.Goals as goal

pub returns : goal.returns
returns c = paragraph_is c.args.address c.saturating_add.result c.saturating_add.ensures
