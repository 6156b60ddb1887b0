use Rattle.std.proofs.Common.{◌≡◌, drop}
use Rattle.std.specs.Prelude.{find}
use Rattle.std.specs.Str.{bytes_eq}
use Rattle.omf_cmd.specs.Words.{job_name, job_named, jobs}
use Rattle.omf_cmd.proofs.words.job_named.Given as goal

-- the job is the first of this name among those that are left
abbrev pub invariant-loop-job : goal.invariant-loop-job
invariant-loop-job l = find (λ j. bytes_eq l.name (job_name j)) (drop l.job-index jobs) ≡ job_named l.name
