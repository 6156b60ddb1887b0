use Rattle.std.proofs.Common.{◌≡◌, ◌≤◌, ◌-◌, ◌++◌, length, drop}
use Rattle.std.specs.Prelude.{flat_map, map}
use Rattle.omf_image.specs.Inner.Joined.{runs_of}
use Rattle.omf_image.specs.Overlay.{byte_at}
use Rattle.omf_c.specs.Runs.{bytes_over, run_row}
use Rattle.omf_c.proofs.runs.add_runs.Given as goal

-- the runs so far, and those that are left, are all runs; so are their bytes
abbrev pub invariant-loop-first : goal.invariant-loop-first
invariant-loop-first l = record {
  within : l.k ≤ length (runs_of l.image l.segment);
  runs : l.runs.items ++ map (run_row l.segment) (drop l.k (runs_of l.image l.segment)) ≡ l.initial.runs.items ++ map (run_row l.segment) (runs_of l.image l.segment);
  bytes : l.laid.items ++ flat_map (bytes_over (byte_at l.image l.segment)) (drop l.k (runs_of l.image l.segment)) ≡ l.initial.laid.items ++ flat_map (bytes_over (byte_at l.image l.segment)) (runs_of l.image l.segment);
}

abbrev pub decreases-loop-first : goal.decreases-loop-first
decreases-loop-first l = length (runs_of l.image l.segment) - l.k
