use Rattle.omf_find.proofs.RoomLaws.{left_more, room_maybe_earlier}
use Rattle.omf_find.proofs.room.Room.take.Goals as goal

pub returns-in-None-clause-room : goal.returns-in-None-clause-room
returns-in-None-clause-room c =
    room_maybe_earlier c.args.self.now c.take_between.new.self c.args.from c.args.size c.take_after-in-None.result c.take_between.ensures.left c.take_after-in-None.ensures.room

pub returns-in-None-clause-left : goal.returns-in-None-clause-left
returns-in-None-clause-left c = left_more c.args.self.now c.take_between.new.self c.take_after-in-None.new.self c.take_between.ensures.left c.take_after-in-None.ensures.left
