use Rattle.std.proofs.Common.{◌≡◌, drop}
use Rattle.std.specs.Prelude.{fold}
use Rattle.omf_output.specs.Inner.Rooms.{no_room, with_portion}
use Rattle.omf_output.specs.Exe.Members.{portions}
use Rattle.omf_output.proofs.exe.room.room_of.Given as goal

-- the memory so far with that of the modules to come is that of all
abbrev pub invariant-loop-member : goal.invariant-loop-member
invariant-loop-member l =
    fold with_portion l.room (portions (drop l.member-index l.members)) ≡ fold with_portion no_room (portions l.members)
