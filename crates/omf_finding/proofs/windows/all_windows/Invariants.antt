use Rattle.omf_finding.specs.Inner.Shaping.{HasWindows, OnlyWindows, is_kept}
use Rattle.omf_finding.proofs.windows.all_windows.Given as goal

-- the windows so far
abbrev pub invariant-loop-at : goal.invariant-loop-at
invariant-loop-at l = record {
  has : HasWindows (is_kept l.marks) l.program l.windows.items l.at;
  only : OnlyWindows l.program l.windows.items l.at;
}
