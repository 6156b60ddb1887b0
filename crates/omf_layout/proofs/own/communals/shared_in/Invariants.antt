use Rattle.std.proofs.Common.{◌≡◌, ◌++◌, drop}
use Rattle.std.specs.Prelude.{map}
use Rattle.omf_layout.specs.Own.Communals.{faults_in, runs_in, shared_by}
use Rattle.omf_layout.proofs.own.communals.shared_in.Given as goal

-- the communals so far, and those that are left; no fault so far
abbrev pub invariant-loop-run : goal.invariant-loop-run
invariant-loop-run l = record {
  all : l.communals.items ++ map shared_by (runs_in (map (λ r. r.items) (drop l.run-index l.runs))) ≡ map shared_by (runs_in (map (λ r. r.items) l.runs));
  faults : faults_in (runs_in (map (λ r. r.items) (drop l.run-index l.runs))) ≡ faults_in (runs_in (map (λ r. r.items) l.runs));
}
