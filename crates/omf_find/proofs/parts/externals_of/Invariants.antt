use Rattle.std.proofs.Common.{◌≡◌, length, take}
use Rattle.omf_find.proofs.parts.externals_of.Given as goal

-- those so far
abbrev pub invariant-loop-before : goal.invariant-loop-before
invariant-loop-before l = record {
  end : l.before-end ≡ length l.placement.externals;
  made : l.externals.items ≡ take l.before l.placement.externals;
}
