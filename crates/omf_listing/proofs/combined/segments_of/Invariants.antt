use Rattle.std.proofs.Common.{◌≡◌, ◌++◌, drop}
use Rattle.std.specs.Prelude.{flat_map, map}
use Rattle.omf_check.specs.Module.{typed_modules}
use Rattle.omf_listing.specs.Combined.{run_segments}
use Rattle.omf_listing.proofs.combined.segments_of.Given as goal

-- the segments of the runs so far, and of those that are left
abbrev pub invariant-loop-run : goal.invariant-loop-run
invariant-loop-run l =
    let of_run = run_segments (typed_modules l.modules) l.placements in
    l.segments.items ++ flat_map of_run (map (λ r. r.items) (drop l.run-index l.runs)) ≡ flat_map of_run (map (λ r. r.items) l.runs)
