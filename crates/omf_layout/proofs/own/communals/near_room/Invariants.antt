use Rattle.std.proofs.Common.{◌≡◌, ◌≤◌, ◌+◌, ◌*◌, ◌^◌, drop}
use Rattle.omf_layout.specs.Own.Communals.{near_room}
use Rattle.omf_layout.proofs.own.communals.near_room.Given as goal

-- the room so far, and of those that are left
abbrev pub invariant-loop-communal : goal.invariant-loop-communal
invariant-loop-communal l = record {
  same : l.total + near_room (drop l.communal-index l.communals) ≡ near_room l.communals;
  low : l.total ≤ l.communal-index * 2 ^ 32;
}
