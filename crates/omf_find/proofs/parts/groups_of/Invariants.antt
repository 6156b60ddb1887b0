use Rattle.std.proofs.Common.{◌≡◌, length, take}
use Rattle.omf_find.proofs.parts.groups_of.Given as goal

-- those so far
abbrev pub invariant-loop-before : goal.invariant-loop-before
invariant-loop-before l = record {
  end : l.before-end ≡ length l.placement.groups;
  made : l.groups.items ≡ take l.before l.placement.groups;
}
