use Rattle.std.proofs.Common.{◌≡◌, ◌≤◌, length}
use Rattle.omf_finding.specs.Inner.Measuring.{fresh_below}
use Rattle.omf_finding.proofs.shapes.varied_in.Given as goal

-- those so far
abbrev pub invariant-loop-at : goal.invariant-loop-at
invariant-loop-at l = record {
  count : l.varied ≡ length (fresh_below l.interval l.at);
  low : l.varied ≤ l.at;
}
