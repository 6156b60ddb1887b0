use Rattle.std.proofs.Common.{◌≡◌, ◌≤◌, ◌^◌, drop}
use Rattle.omf_layout.specs.Layout.{after_communals}
use Rattle.omf_layout.proofs.laying.after_communals.Given as goal

-- the free address after those that are left is the one after all
abbrev pub invariant-loop-room : goal.invariant-loop-room
invariant-loop-room l = record {
  same : after_communals l.options l.free (drop l.room-index l.rooms) ≡ after_communals l.options l.fn.free l.rooms;
  low : l.free ≤ 2 ^ 32;
  from : l.options.base ≤ l.free;
}
