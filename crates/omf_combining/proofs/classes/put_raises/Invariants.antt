use Rattle.std.proofs.Common.{◌≡◌, ◌+◌, ◌++◌, drop, map}
use Rattle.omf_layout.specs.Own.Written.{raisings, written}
use Rattle.omf_combining.specs.Classes.{raise_records}
use Rattle.omf_combining.proofs.classes.put_raises.Given as goal

-- the comments so far, and those that are left
abbrev pub invariant-loop-leader : goal.invariant-loop-leader
invariant-loop-leader l = record {
  same : l.out.items ++ written (raisings l.index (map (λ s. s.raised) (drop l.leader-index l.leaders))) ≡ l.fn.out.items ++ written (raise_records l.leaders);
  count : l.index ≡ l.leader-index + 1;
}
