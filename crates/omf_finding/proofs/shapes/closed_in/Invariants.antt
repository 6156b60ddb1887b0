use Rattle.std.proofs.Common.{◌≡◌, ◌≤◌, length}
use Rattle.std.specs.Prelude.{filter_map}
use Rattle.std.specs.List.{range_with_len}
use Rattle.omf_finding.specs.Inner.Measuring.{closed_at}
use Rattle.omf_finding.proofs.shapes.closed_in.Given as goal

-- the closed bytes so far
abbrev pub invariant-loop-at : goal.invariant-loop-at
invariant-loop-at l = record {
  count : l.closed ≡ length (filter_map (closed_at l.interval) (range_with_len 0 l.at));
  low : l.closed ≤ l.at;
}
