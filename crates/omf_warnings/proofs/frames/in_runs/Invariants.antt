use Rattle.std.proofs.Common.{◌≡◌, drop}
use Rattle.std.specs.Prelude.{map}
use Rattle.omf_warnings.specs.Frames.{split_run}
use Rattle.omf_warnings.specs.Wide.{first_some}
use Rattle.omf_warnings.proofs.frames.in_runs.Given as goal

-- the first in the runs that are left is that of all
abbrev pub invariant-loop-run : goal.invariant-loop-run
invariant-loop-run l = first_some (split_run l.placements) (map (λ r. r.items) (drop l.run-index l.runs)) ≡ first_some (split_run l.placements) (map (λ r. r.items) l.runs)
