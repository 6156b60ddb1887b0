use Rattle.std.proofs.Common.{◌≡◌, ◌++◌, drop}
use Rattle.omf_layout.specs.Own.Written.{written}
use Rattle.omf_combining.specs.Classes.{leaders_records}
use Rattle.omf_combining.proofs.classes.put_leaders.Given as goal

-- the segments so far, and those that are left
abbrev pub invariant-loop-leader : goal.invariant-loop-leader
invariant-loop-leader l = record {
  same : l.out.items ++ written (leaders_records l.before (drop l.leader-index l.leaders)) ≡ l.fn.out.items ++ written (leaders_records 0 l.leaders);
  count : l.before ≡ l.leader-index;
}
