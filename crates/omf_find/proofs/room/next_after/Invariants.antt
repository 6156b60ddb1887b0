use Rattle.std.proofs.Common.{◌≤◌, take}
use Rattle.omf_find.specs.Room.{IsAfter}
use Rattle.omf_find.proofs.room.next_after.Given as goal

-- after the segments so far
abbrev pub invariant-loop-row : goal.invariant-loop-row
invariant-loop-row l = record {
  end : l.end ≤ l.next;
  rows : IsAfter (take l.row-index l.rows) l.next;
}
