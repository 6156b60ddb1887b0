use Rattle.std.proofs.Common.{◌≡◌, ◌+◌, ◌-◌, ◌++◌}
use Rattle.std.specs.Prelude.{flat_map, map}
use Rattle.std.specs.List.{range_with_len}
use Rattle.omf_image.specs.Inner.Joined.{runs_of}
use Rattle.omf_image.specs.Overlay.{byte_at}
use Rattle.omf_c.specs.Runs.{bytes_over, run_row, shown_of}
use Rattle.omf_c.proofs.runs.shown_of.Given as goal

-- the runs of the segments so far, and those of the segments that are left, are all runs; so are their bytes
abbrev pub invariant-loop-before : goal.invariant-loop-before
invariant-loop-before l = record {
  runs : l.runs.items ++ flat_map (λ s. map (run_row s) (runs_of l.image s)) (range_with_len (l.before + 1) (l.segments - l.before)) ≡ (shown_of l.segments (byte_at l.image) (runs_of l.image)).runs;
  bytes : l.laid.items ++ flat_map (λ s. flat_map (bytes_over (byte_at l.image s)) (runs_of l.image s)) (range_with_len (l.before + 1) (l.segments - l.before)) ≡ (shown_of l.segments (byte_at l.image) (runs_of l.image)).bytes;
}
