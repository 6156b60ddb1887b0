use Rattle.std.proofs.Common.{◌≡◌, ◌+◌, ◌++◌, drop}
use Rattle.omf_layout.specs.Own.Communals.{group_index, near_publics, near_room, nears}
use Rattle.omf_layout.specs.Own.Written.{written}
use Rattle.omf_layout.proofs.own.communals.put_near_publics.Given as goal

-- the publics so far, and those that are left; the room so far, and of those that are left
abbrev pub invariant-loop-communal : goal.invariant-loop-communal
invariant-loop-communal l = record {
  same : l.out.items ++ written (near_publics (group_index l.grouped) l.offset (nears (drop l.communal-index l.communals))) ≡ l.fn.out.items ++ written (near_publics (group_index l.grouped) 0 (nears l.communals));
  room : l.offset + near_room (drop l.communal-index l.communals) ≡ near_room l.communals;
}
